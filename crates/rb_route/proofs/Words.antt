-- A word of a pattern, up to a slash or to the end.
use Rattle.std.proofs.Common.{◌≡◌, ◌∙◌, ℕ, Bool, true, false, cond, ◌&&◌, ◌==◌, nat_eq, bytes_eq, List, [], ◌∷◌, ◌++◌, Option, Some, None, ap, sym, subst, refl, arith}
use Rattle.std.proofs.lemmas.Bool.{eqb-true}
use Rattle.matchit.specs.Level.{IsText}
use Rattle.matchit.specs.Rows.{RowsOf}
use Rattle.matchit.specs.Seek.{own, step, or_else, seek}
use Rattle.rb_causes.specs.Texts.{pieces}
use Rattle.rb_route.proofs.Seeking.{on, pre, own_on, step_on, none_found, or_none, seek_literal, seek_on}
use Rattle.rb_route.proofs.Cutting.{piece, behind, is_slash, other_way, end_of, slashed, own_end, goes}

-- no slash and no parameter stands in a word
abbrev pub IsPiece : List ℕ → Type 0
IsPiece [] = Unit {0}
IsPiece (x ∷ w) =
    ((x == 47) ≡ false) × ((x == 256) ≡ false) × ((x == 257) ≡ false) × IsPiece w

not_both : (x b : ℕ) → (x == 47) ≡ false → (b == 47) ≡ true → (x == b) ≡ false
not_both x b h k = grind (arith, h, k)

module _ {K : Type 0} where
  pub step_append : (b : ℕ) (xs ys : RowsOf K) → step b (xs ++ ys) ≡ step b xs ++ step b ys
  step_append b [] ys = refl
  step_append b (([], k) ∷ xs) ys = step_append b xs ys
  step_append b ((x ∷ t, k) ∷ xs) ys = step_by (x == b) t k xs ys (step_append b xs ys)
    where
      step_by : (e : Bool) (t : List ℕ) (k : K) (xs ys : RowsOf K)
          → step b (xs ++ ys) ≡ step b xs ++ step b ys
          → cond e ((t, k) ∷ step b (xs ++ ys)) (step b (xs ++ ys))
          ≡ cond e ((t, k) ∷ step b xs) (step b xs) ++ step b ys
      step_by true t k xs ys h = ap (λ r. (t, k) ∷ r) h
      step_by false t k xs ys h = h

  end_steps : (b : ℕ) (o : Option K) → step b (end_of o) ≡ []
  end_steps b None = refl
  end_steps b (Some k) = refl

  no_more : (rs : RowsOf K) → rs ++ [] ≡ rs
  no_more [] = refl
  no_more (r ∷ rs) = ap (λ l. r ∷ l) (no_more rs)

  step_slashed : (b : ℕ) (e : Bool) → (47 == b) ≡ e → (us : RowsOf K) (o : Option K)
      → step b (slashed us o) ≡ cond e us []
  step_slashed b e h us o =
      step_append b (on 47 us) (end_of o)
      ∙ ap (λ r. step b (on 47 us) ++ r) (end_steps b o)
      ∙ no_more (step b (on 47 us))
      ∙ step_on b 47 e h us

  seek_if : (e : Bool) (rs : RowsOf K) (path : List ℕ)
      → seek 0 (cond e rs []) path ≡ cond e (seek 0 rs path) None
  seek_if true rs path = refl
  seek_if false rs path = none_found path 0

  -- ---- a word with what may follow it: a slash and more, or nothing

  slash_next : (us : RowsOf K) (o : Option K) (b : ℕ) (path : List ℕ) (e : Bool) → (b == 47) ≡ e
      → cond (47 == b) (seek 0 us path) None
      ≡ cond (bytes_eq [] (cond e [] (b ∷ piece path))) (goes us o (cond e (Some path) (behind path)))
      None
  slash_next us o b path true h =
      subst (λ x. cond (47 == x) (seek 0 us path) None ≡ seek 0 us path) (sym (is_slash b h)) refl
  slash_next us o b path false h = rw (other_way b 47 h) refl

  slashed_here : (us : RowsOf K) (o : Option K) (path : List ℕ)
      → seek 0 (slashed us o) path ≡ cond (bytes_eq [] (piece path)) (goes us o (behind path)) None
  unfolding seek
  slashed_here us o [] = own_end us o
  slashed_here us o (b ∷ path) =
      seek_literal (slashed us o) b path (step_slashed 256 false refl us o)
      (step_slashed 257 false refl us o)
      ∙ ap (λ r. seek 0 r path) (step_slashed b (47 == b) refl us o)
      ∙ seek_if (47 == b) us path
      ∙ slash_next us o b path (b == 47) refl

  word_next : (x : ℕ) (w : List ℕ) (b : ℕ) (path : List ℕ) (us : RowsOf K) (o : Option K) (e : Bool)
      → (b == 47) ≡ e → (x == 47) ≡ false
      → cond (x == b) (cond (bytes_eq w (piece path)) (goes us o (behind path)) None) None
      ≡ cond (bytes_eq (x ∷ w) (cond e [] (b ∷ piece path)))
      (goes us o (cond e (Some path) (behind path))) None
  word_next x w b path us o true h k = rw (not_both x b k h) refl
  word_next x w b path us o false h k = both (x == b) (bytes_eq w (piece path))
    where
      both : (e f : Bool)
          → cond e (cond f (goes us o (behind path)) None) None
          ≡ cond (e && f) (goes us o (behind path)) None
      both true f = refl
      both false f = refl

  pub seek_slashed : (w : List ℕ) (us : RowsOf K) (o : Option K) (path : List ℕ) → IsPiece w
      → seek 0 (pre w (slashed us o)) path
      ≡ cond (bytes_eq w (piece path)) (goes us o (behind path)) None
  unfolding seek
  seek_slashed [] us o path h = slashed_here us o path
  seek_slashed (x ∷ w) us o [] h = own_on x (pre w (slashed us o))
  seek_slashed (x ∷ w) us o (b ∷ path) h =
      seek_on x (pre w (slashed us o)) b path h.1 h.2
      ∙ ap (λ r. cond (x == b) r None) (seek_slashed w us o path h.3)
      ∙ word_next x w b path us o (b == 47) refl h.0

  -- ---- one of two words

  own_append : (x : ℕ) (rs more : RowsOf K) → own (on x rs ++ more) ≡ own more
  own_append x [] more = refl
  own_append x ((t, k) ∷ rs) more = own_append x rs more

  -- rows that begin with no parameter, of which none ends and none begins with this byte
  pub record GoesOtherwise (x : ℕ) (rs : RowsOf K) : Type 0 where
    pub parameter : step 256 rs ≡ []
    pub catch_all : step 257 rs ≡ []
    pub ends : own rs ≡ None
    pub byte : step x rs ≡ []

  either_by : (x b : ℕ) (e : Bool) → (x == b) ≡ e → (rs more : RowsOf K) (path : List ℕ)
      → step x more ≡ []
      → seek 0 (cond e rs [] ++ step b more) path
      ≡ or_else (cond e (seek 0 rs path) None) (seek 0 (step b more) path)
  either_by x b true h rs more path k =
      let same : step b more ≡ [] = subst (λ y. step y more ≡ []) (eqb-true x b h) k in
      rw same (rw (no_more rs) (rw (none_found path 0) (sym (or_none (seek 0 rs path)))))
  either_by x b false h rs more path k = refl

  pub seek_either : (x : ℕ) (rs more : RowsOf K) (path : List ℕ) → (x == 256) ≡ false
      → (x == 257) ≡ false → GoesOtherwise x more
      → seek 0 (on x rs ++ more) path ≡ or_else (seek 0 (on x rs) path) (seek 0 more path)
  unfolding seek
  seek_either x rs more [] h k g =
      own_append x rs more ∙ g.ends ∙ sym (rw (own_on x rs) g.ends)
  seek_either x rs more (b ∷ path) h k g =
      seek_literal (on x rs ++ more) b path
      (step_append 256 (on x rs) more ∙ ap (λ r. r ++ step 256 more) (step_on 256 x false h rs)
      ∙ g.parameter)
      (step_append 257 (on x rs) more ∙ ap (λ r. r ++ step 257 more) (step_on 257 x false k rs)
      ∙ g.catch_all)
      ∙ ap (λ r. seek 0 r path) (step_append b (on x rs) more
      ∙ ap (λ r. r ++ step b more) (step_on b x (x == b) refl rs))
      ∙ either_by x b (x == b) refl rs more path g.byte
      ∙ ap (λ o. or_else o (seek 0 (step b more) path)) (sym (seek_on x rs b path h k))
      ∙ ap (λ o. or_else (seek 0 (on x rs) (b ∷ path)) o)
      (sym (seek_literal more b path g.parameter g.catch_all))

-- ---- the pieces of a path

abbrev pub more_pieces : Option (List ℕ) → List (List ℕ)
more_pieces None = []
more_pieces (Some rest) = pieces (λ b. nat_eq b 47) rest

piece_by : (b : ℕ) (e : Bool) (path : List ℕ) (ps : List (List ℕ)) → (b == 47) ≡ e
    → pieces (λ b. nat_eq b 47) path ≡ piece path ∷ more_pieces (behind path)
    → pieces (λ b. nat_eq b 47) (b ∷ path) ≡ piece (b ∷ path) ∷ more_pieces (behind (b ∷ path))
piece_by b true path ps h ih = rw h refl
piece_by b false path ps h ih = rw h (rw ih refl)

pub pieces_are : (path : List ℕ)
    → pieces (λ b. nat_eq b 47) path ≡ piece path ∷ more_pieces (behind path)
pieces_are [] = refl
pieces_are (b ∷ path) = piece_by b (b == 47) path [] refl (pieces_are path)

text_by : (b : ℕ) (e : Bool) (path rest : List ℕ) → IsText path
    → (behind path ≡ Some rest → IsText rest) → cond e (Some path) (behind path) ≡ Some rest
    → IsText rest
text_by b true path rest h ih k = subst (λ o. text_of o) k h
  where
    text_of : Option (List ℕ) → Type 0
    text_of None = ⊥
    text_of (Some p) = IsText p
text_by b false path rest h ih k = ih k

pub text_behind : (path rest : List ℕ) → IsText path → behind path ≡ Some rest → IsText rest
text_behind [] rest h k = absurd (grind (arith, k))
text_behind (b ∷ path) rest h k = text_by b (b == 47) path rest h.1 (text_behind path rest h.1) k
