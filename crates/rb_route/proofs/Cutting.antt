-- What a parameter takes of a path: the piece up to the next slash.
use Rattle.std.proofs.Common.{◌≡◌, ◌∙◌, ℕ, suc, ◌-◌, ◌<◌, Bool, true, false, cond, ◌==◌, nat_eq, ltb, List, [], ◌∷◌, ◌++◌, drop, length, Option, Some, None, is_some, unwrap_or, ap, sym, subst, refl, arith}
use Rattle.std.specs.Cmp.Lexicographic.{pointwise}
use Rattle.std.proofs.lemmas.Bool.{eqb-true}
use Rattle.matchit.specs.Level.{IsText}
use Rattle.matchit.specs.Rows.{RowsOf}
use Rattle.matchit.specs.Seek.{segment, has_slash, cuts, better, own, with_suffix, longest_from, param_step, seek, after_param}
use Rattle.rb_route.proofs.Seeking.{on, own_on, none_found, seek_on, seek_param}

-- ---- up to the first slash, and behind it

abbrev pub piece : List ℕ → List ℕ
piece [] = []
piece (b ∷ path) = cond (b == 47) [] (b ∷ piece path)

abbrev pub behind : List ℕ → Option (List ℕ)
behind [] = None
behind (b ∷ path) = cond (b == 47) (Some path) (behind path)

pub is_slash : (b : ℕ) → (b == 47) ≡ true → b ≡ 47
is_slash b h = eqb-true b 47 h

pub other_way : (a b : ℕ) → (a == b) ≡ false → (b == a) ≡ false
other_way a b h = grind (arith, h)

slash_by : (b : ℕ) (e : Bool) → (b == 47) ≡ e → (path : List ℕ)
    → has_slash path ≡ is_some (behind path) → has_slash (b ∷ path) ≡ is_some (behind (b ∷ path))
slash_by b true h path ih = rw h refl
slash_by b false h path ih = rw h ih

pub slash_is : (path : List ℕ) → has_slash path ≡ is_some (behind path)
slash_is [] = refl
slash_is (b ∷ path) = slash_by b (b == 47) refl path (slash_is path)

-- ---- a segment ends with a slash where there is one

abbrev ends : List ℕ → Bool
ends seg = pointwise nat_eq (47 ∷ []) (drop (length seg - 1) seg)

less_one : (n : ℕ) → suc n - 1 ≡ n
less_one n = omega arith

ends_cons : (b c : ℕ) (s : List ℕ) → ends (b ∷ c ∷ s) ≡ ends (c ∷ s)
ends_cons b c s =
    ap (λ n. pointwise nat_eq (47 ∷ []) (drop n (b ∷ c ∷ s))) (less_one (suc (length s)))
    ∙ ap (λ n. pointwise nat_eq (47 ∷ []) (drop n (c ∷ s))) (sym (less_one (length s)))

ends_more : (b c : ℕ) (e : Bool) (s : List ℕ)
    → ends (b ∷ cond e (c ∷ []) (c ∷ s)) ≡ ends (cond e (c ∷ []) (c ∷ s))
ends_more b c true s = ends_cons b c []
ends_more b c false s = ends_cons b c s

one_byte : (b : ℕ) → (47 == b) ≡ false → ends (b ∷ []) ≡ false
one_byte b h = rw h refl

ends_by : (b : ℕ) (e : Bool) → (b == 47) ≡ e → (path : List ℕ)
    → ends (segment path) ≡ has_slash path → ends (segment (b ∷ path)) ≡ has_slash (b ∷ path)
ends_by b true h path ih =
    subst (λ x. ends (segment (x ∷ path)) ≡ has_slash (x ∷ path)) (sym (is_slash b h)) refl
ends_by b false h [] ih = rw h (one_byte b (other_way b 47 h))
ends_by b false h (c ∷ path) ih = rw h (ends_more b c (c == 47) (segment path) ∙ ih)

ends_path : (path : List ℕ) → ends (segment path) ≡ has_slash path
ends_path [] = refl
ends_path (b ∷ path) = ends_by b (b == 47) refl path (ends_path path)

-- ---- a suffix of a slash

two_or_more : (b c : ℕ) (e : Bool) (s : List ℕ)
    → ltb 1 (length (b ∷ cond e (c ∷ []) (c ∷ s))) ≡ true
two_or_more b c true s = refl
two_or_more b c false s = grind arith

pub cuts_path : (b : ℕ) → (b == 47) ≡ false → (path : List ℕ)
    → cuts (segment (b ∷ path)) (47 ∷ []) ≡ has_slash path
cuts_path b h [] = rw h refl
cuts_path b h (c ∷ path) =
    rw h (rw (two_or_more b c (c == 47) (segment path))
    (ends_more b c (c == 47) (segment path) ∙ ends_path (c ∷ path)))

-- ---- rows that go on with a slash, and perhaps one that ends

best_none : (seg : List ℕ) → cuts seg (47 ∷ []) ≡ false → better seg [] (47 ∷ []) ≡ []
best_none seg h = rw h refl

best_some : (seg : List ℕ) → cuts seg (47 ∷ []) ≡ true → better seg [] (47 ∷ []) ≡ 47 ∷ []
best_some seg h = rw h refl

segment_by : (b : ℕ) (e : Bool) (s : List ℕ)
    → (n : ℕ) × (length (cond e (b ∷ []) (b ∷ s)) ≡ suc n)
segment_by b true s = (0, refl)
segment_by b false s = (length s, refl)

no_token : (b : ℕ) → b < 256 → (256 == b) ≡ false
no_token b h = grind (arith, h)

segment_less : (b : ℕ) (path : List ℕ) → (b == 47) ≡ false
    → length (segment (b ∷ path)) - 1 ≡ length (segment path)
segment_less b path h = rw h (less_one (length (segment path)))

module _ {K : Type 0} where
  abbrev pub end_of : Option K → RowsOf K
  end_of None = []
  end_of (Some k) = ([], k) ∷ []

  abbrev pub slashed : RowsOf K → Option K → RowsOf K
  slashed us o = on 47 us ++ end_of o

  pub own_end : (us : RowsOf K) (o : Option K) → own (slashed us o) ≡ o
  own_end [] None = refl
  own_end [] (Some k) = refl
  own_end ((t, k) ∷ us) o = own_end us o

  with_slash : (us : RowsOf K) (o : Option K) → with_suffix (47 ∷ []) (slashed us o) ≡ on 47 us
  with_slash [] None = refl
  with_slash [] (Some k) = refl
  with_slash ((t, k) ∷ us) o = ap (λ r. (47 ∷ t, k) ∷ r) (with_slash us o)

  kept : (seg : List ℕ) (us : RowsOf K) (o : Option K)
      → longest_from seg (47 ∷ []) (slashed us o) ≡ 47 ∷ []
  kept seg [] None = refl
  kept seg [] (Some k) = refl
  kept seg ((t, k) ∷ us) o = kept seg us o

  none_cuts : (seg : List ℕ) → cuts seg (47 ∷ []) ≡ false → (us : RowsOf K) (o : Option K)
      → longest_from seg [] (slashed us o) ≡ []
  none_cuts seg h [] None = refl
  none_cuts seg h [] (Some k) = refl
  none_cuts seg h ((t, k) ∷ us) o =
      ap (λ best. longest_from seg best (slashed us o)) (best_none seg h) ∙ none_cuts seg h us o

  no_words : (seg : List ℕ) (o : Option K) → longest_from seg [] (slashed [] o) ≡ []
  no_words seg None = refl
  no_words seg (Some k) = refl

  slash_cuts : (seg : List ℕ) → cuts seg (47 ∷ []) ≡ true → (t : List ℕ) (k : K) (us : RowsOf K)
      (o : Option K) → longest_from seg [] (slashed ((t, k) ∷ us) o) ≡ 47 ∷ []
  slash_cuts seg h t k us o =
      ap (λ best. longest_from seg best (slashed us o)) (best_some seg h) ∙ kept seg us o

  -- ---- what is found behind the parameter

  -- a slash first: the parameter would be empty
  pub param_empty : (us : RowsOf K) (o : Option K) (path : List ℕ)
      → after_param (slashed us o) (47 ∷ path) ≡ None
  unfolding param_step
  param_empty us o path = rw (none_cuts (47 ∷ []) refl us o) (none_found path (0 - 1))

  seek_past : (path : List ℕ) (rs : RowsOf K) → seek (length path) rs path ≡ own rs
  unfolding seek
  seek_past [] rs = refl
  seek_past (b ∷ path) rs = seek_past path rs

  -- no slash: the path ends with the parameter
  pub param_last : (us : RowsOf K) (o : Option K) (b : ℕ) (path : List ℕ) → (b == 47) ≡ false
      → has_slash path ≡ false → after_param (slashed us o) (b ∷ path) ≡ o
  unfolding param_step
  param_last us o b path h k =
      rw (none_cuts (segment (b ∷ path)) (cuts_path b h path ∙ k) us o)
      (rw h (rw k (rw (less_one (length path)) (seek_past path (slashed us o) ∙ own_end us o))))

  -- one less than a segment is skipped up to its slash
  abbrev Skips : List ℕ → List ℕ → RowsOf K → Type 0
  Skips path rest rs = seek (length (segment path) - 1) (on 47 rs) path ≡ seek 0 rs rest

  skipped : (b c : ℕ) (path rest : List ℕ) (rs : RowsOf K) (n : ℕ)
      → length (segment (c ∷ path)) ≡ suc n → Skips (c ∷ path) rest rs
      → seek (length (b ∷ segment (c ∷ path)) - 1) (on 47 rs) (b ∷ c ∷ path) ≡ seek 0 rs rest
  unfolding seek
  skipped b c path rest rs n h ih =
      ap (λ m. seek m (on 47 rs) (b ∷ c ∷ path))
      (less_one (length (segment (c ∷ path))) ∙ h)
      ∙ ap (λ m. seek m (on 47 rs) (c ∷ path)) (sym (less_one n) ∙ ap (λ m. m - 1) (sym h)) ∙ ih

  first_slash : (b : ℕ) → (b == 47) ≡ true → (path rest : List ℕ) (rs : RowsOf K)
      → Some path ≡ Some rest → seek 0 (on 47 rs) (b ∷ path) ≡ seek 0 rs rest
  first_slash b k path rest rs h =
      subst (λ x. seek 0 (on 47 rs) (x ∷ path) ≡ seek 0 rs rest) (sym (is_slash b k))
      (seek_on 47 rs 47 path refl refl ∙ ap (seek 0 rs) (ap (λ o. unwrap_or o path) h))

  skips_by : (b : ℕ) (e : Bool) → (b == 47) ≡ e → (path rest : List ℕ) (rs : RowsOf K)
      → cond e (Some path) (behind path) ≡ Some rest
      → (behind path ≡ Some rest → Skips path rest rs) → Skips (b ∷ path) rest rs
  skips_by b true k path rest rs h ih = rw k (first_slash b k path rest rs h)
  skips_by b false k [] rest rs h ih = absurd (grind (arith, h))
  skips_by b false k (c ∷ path) rest rs h ih =
      let n = segment_by c (c == 47) (segment path) in
      rw k (skipped b c path rest rs n.0 n.1 (ih h))

  pub skips : (path rest : List ℕ) (rs : RowsOf K) → behind path ≡ Some rest → Skips path rest rs
  skips [] rest rs h = absurd (grind (arith, h))
  skips (b ∷ path) rest rs h = skips_by b (b == 47) refl path rest rs h (skips path rest rs)

  -- a slash behind the parameter: the rows that go on with one
  abbrev step_with : List ℕ → RowsOf K → List ℕ → ℕ × RowsOf K
  step_with suffix rs path =
      cond (ltb 0 (length suffix)) (length (segment path) - length suffix, with_suffix suffix rs)
      (cond (has_slash path) (0, []) (length path, rs))

  step_is : (rs : RowsOf K) (path : List ℕ)
      → param_step rs path ≡ step_with (longest_from (segment path) [] rs) rs path
  unfolding param_step
  step_is rs path = refl

  step_to_slash : (t : List ℕ) (k : K) (us : RowsOf K) (o : Option K) (path : List ℕ)
      → cuts (segment path) (47 ∷ []) ≡ true
      → param_step (slashed ((t, k) ∷ us) o) path
      ≡ (length (segment path) - 1, on 47 ((t, k) ∷ us))
  step_to_slash t k us o path h =
      step_is (slashed ((t, k) ∷ us) o) path
      ∙ ap (λ l. step_with l (slashed ((t, k) ∷ us) o) path)
      (slash_cuts (segment path) h t k us o)
      ∙ ap (λ r. (length (segment path) - 1, r)) (with_slash ((t, k) ∷ us) o)

  pub param_goes : (t : List ℕ) (k : K) (us : RowsOf K) (o : Option K) (b : ℕ)
      (path rest : List ℕ) → (b == 47) ≡ false → behind path ≡ Some rest
      → after_param (slashed ((t, k) ∷ us) o) (b ∷ path) ≡ seek 0 ((t, k) ∷ us) rest
  param_goes t k us o b path rest h g =
      let has : has_slash path ≡ true = slash_is path ∙ ap is_some g in
      ap (λ (q : ℕ × RowsOf K). seek (q.0 - 1) q.1 path)
      (step_to_slash t k us o (b ∷ path) (cuts_path b h path ∙ has))
      ∙ ap (λ n. seek (n - 1) (on 47 ((t, k) ∷ us)) path) (segment_less b path h)
      ∙ skips path rest ((t, k) ∷ us) g

  -- where no row goes on
  pub param_stops : (o : Option K) (b : ℕ) (path rest : List ℕ) → (b == 47) ≡ false
      → behind path ≡ Some rest → after_param (slashed [] o) (b ∷ path) ≡ None
  unfolding param_step
  param_stops o b path rest h g =
      let has : has_slash path ≡ true = slash_is path ∙ ap is_some g in
      rw (no_words (segment (b ∷ path)) o) (rw h (rw has (none_found path (0 - 1))))

  -- ---- all of it

  abbrev pub goes : RowsOf K → Option K → Option (List ℕ) → Option K
  goes us o None = o
  goes us o (Some rest) = seek 0 us rest

  goes_by : (us : RowsOf K) (o : Option K) (b : ℕ) (path : List ℕ) (p : Option (List ℕ))
      → (b == 47) ≡ false → behind path ≡ p → after_param (slashed us o) (b ∷ path) ≡ goes us o p
  goes_by us o b path None h g = param_last us o b path h (slash_is path ∙ ap is_some g)
  goes_by [] o b path (Some rest) h g =
      param_stops o b path rest h g ∙ sym (none_found rest 0)
  goes_by ((t, k) ∷ us) o b path (Some rest) h g = param_goes t k us o b path rest h g

  -- what rows give that begin with a parameter: none for an empty piece
  abbrev pub part : RowsOf K → Option K → List ℕ → Option (List ℕ) → Option K
  part us o [] p = None
  part us o (c ∷ cs) p = goes us o p

  part_by : (us : RowsOf K) (o : Option K) (b : ℕ) (e : Bool) → (b == 47) ≡ e → (path : List ℕ)
      → after_param (slashed us o) (b ∷ path)
      ≡ part us o (cond e [] (b ∷ piece path)) (cond e (Some path) (behind path))
  part_by us o b true h path =
      subst (λ x. after_param (slashed us o) (x ∷ path) ≡ None) (sym (is_slash b h))
      (param_empty us o path)
  part_by us o b false h path = goes_by us o b path (behind path) h refl

  pub seek_part : (us : RowsOf K) (o : Option K) (path : List ℕ) → IsText path
      → seek 0 (on 256 (slashed us o)) path ≡ part us o (piece path) (behind path)
  unfolding seek
  seek_part us o [] h = own_on 256 (slashed us o)
  seek_part us o (b ∷ path) h =
      seek_param (slashed us o) b path (no_token b h.0) ∙ part_by us o b (b == 47) refl path
