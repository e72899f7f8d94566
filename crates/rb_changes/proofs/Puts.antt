-- An item is put where its name stands.
use Rattle.std.proofs.Common.{◌≡◌, ◌∙◌, ◌≤◌, ◌<◌, ℕ, suc, List, [], ◌∷◌, length, map, find, Bool, true, false, cond, bytes_eq, Option, Some, slice_get, slice_set, get_or, ap, sym, subst, refl, arith, if◌then◌else◌}
use Rattle.std.specs.List.{insert}
use Rattle.std.specs.Ordering.{nat_cmp, is_gt, is_eq, match_ordering}
use Rattle.std.specs.Cmp.Lexicographic.{slice_cmp}
use Rattle.std.specs.declared.cmp.Ordering.{Ordering}
use Rattle.std.specs.declared.cmp.Ordering.TheVariants.{Less, Equal, Greater}
use Rattle.std.proofs.lemmas.List.{length-map}
use Rattle.std.proofs.lemmas.Option.{slice_get_within, slice_get-get_or}
use Rattle.rb_causes.proofs.Texts.{text_is, same_text, text_order}
use Rattle.rb_causes.proofs.Lists.{some_is}
use Rattle.rb_log.specs.World.{put_by}
use Rattle.rb_changes.specs.Places.{place_in, is_named, IsHeldAt, IsFreeAt}

-- ---- texts

pub same_name : (a b : List ℕ) → slice_cmp nat_cmp a b ≡ Equal → a ≡ b
same_name a b h = text_is a b (text_order a b Equal h)

not_here : (a b : List ℕ) (o : Ordering) → slice_cmp nat_cmp a b ≡ o → is_eq o ≡ false
    → bytes_eq b a ≡ true → ⊥
not_here a b o is apart same =
    let eq : bytes_eq a b ≡ true = same_text a b (sym (text_is b a same)) in
    let wrong : true ≡ false = sym eq ∙ text_order a b o is ∙ apart in
    grind (arith, wrong)

within_by : (b : Bool) (n k : ℕ) → k ≤ n → (if b then suc k else 0) ≤ suc n
within_by true n k h = omega (arith, h)
within_by false n k h = omega arith

within : (name : List ℕ) (xs : List (List ℕ)) → place_in name xs ≤ length xs
within name [] = omega arith
within name (x ∷ xs) =
    within_by (is_gt (slice_cmp nat_cmp name x)) (length xs) (place_in name xs) (within name xs)

module _ {A : Type 0} (name_of : A → List ℕ) where
  abbrev place : List ℕ → List A → ℕ
  place name xs = place_in name (map name_of xs)

  pub place_within : (name : List ℕ) (xs : List A) → place name xs ≤ length xs
  place_within name xs =
      let h = within name (map name_of xs) in omega (arith, h, length-map xs name_of)

  -- one of this name is no later and no earlier
  not_apart : (name : List ℕ) (x found : A) (o : Ordering) → slice_cmp nat_cmp name (name_of x) ≡ o
      → Some x ≡ Some found → bytes_eq (name_of found) name ≡ true → is_eq o ≡ true
  not_apart name x found o h get named =
      sym (text_order name (name_of x) o h)
      ∙ same_text name (name_of x)
      (sym (text_is (name_of found) name named) ∙ ap name_of (sym (some_is x found get)))

  -- ---- in place of the one of its name

  abbrev Found : A → (A → A) → List A → Type 0
  Found new over xs =
      (found : A) → slice_get xs (place (name_of new) xs) ≡ Some found
      → bytes_eq (name_of found) (name_of new) ≡ true
      → slice_set xs (place (name_of new) xs) (over found) ≡ put_by name_of new over xs

  found_by : (new : A) (over : A → A) (x : A) (xs : List A) (o : Ordering)
      → slice_cmp nat_cmp (name_of new) (name_of x) ≡ o → Found new over xs → (found : A)
      → slice_get (x ∷ xs) (if is_gt o then suc (place (name_of new) xs) else 0) ≡ Some found
      → bytes_eq (name_of found) (name_of new) ≡ true
      → slice_set (x ∷ xs) (if is_gt o then suc (place (name_of new) xs) else 0) (over found)
      ≡ match_ordering o (new ∷ x ∷ xs) (over x ∷ xs) (x ∷ put_by name_of new over xs)
  found_by new over x xs Less is more found get named =
      absurd (grind (arith, not_apart (name_of new) x found Less is get named))
  found_by new over x xs Equal is more found get named =
      ap (λ y. over y ∷ xs) (sym (some_is x found get))
  found_by new over x xs Greater is more found get named = ap (λ ys. x ∷ ys) (more found get named)

  put_found : (new : A) (over : A → A) (xs : List A) → Found new over xs
  put_found new over [] found get named = absurd (grind (arith, get))
  put_found new over (x ∷ xs) found get named =
      found_by new over x xs (slice_cmp nat_cmp (name_of new) (name_of x)) refl
      (put_found new over xs) found get named

  -- ---- where its name would stand

  abbrev Absent : A → (A → A) → List A → Type 0
  Absent new over xs =
      is_named name_of (name_of new) (slice_get xs (place (name_of new) xs)) ≡ false
      → insert xs (place (name_of new) xs) new ≡ put_by name_of new over xs

  absent_by : (new : A) (over : A → A) (x : A) (xs : List A) (o : Ordering)
      → slice_cmp nat_cmp (name_of new) (name_of x) ≡ o → Absent new over xs
      → is_named name_of (name_of new)
      (slice_get (x ∷ xs) (if is_gt o then suc (place (name_of new) xs) else 0)) ≡ false
      → insert (x ∷ xs) (if is_gt o then suc (place (name_of new) xs) else 0) new
      ≡ match_ordering o (new ∷ x ∷ xs) (over x ∷ xs) (x ∷ put_by name_of new over xs)
  absent_by new over x xs Less is more named = refl
  absent_by new over x xs Equal is more named =
      let same : name_of x ≡ name_of new =
      sym (text_is (name_of new) (name_of x) (text_order (name_of new) (name_of x) Equal is)) in
      let wrong : true ≡ false = sym (same_text (name_of x) (name_of new) same) ∙ named in
      absurd (grind (arith, wrong))
  absent_by new over x xs Greater is more named = ap (λ ys. x ∷ ys) (more named)

  put_absent : (new : A) (over : A → A) (xs : List A) → Absent new over xs
  put_absent new over [] named = refl
  put_absent new over (x ∷ xs) named =
      absent_by new over x xs (slice_cmp nat_cmp (name_of new) (name_of x)) refl
      (put_absent new over xs) named

  -- ---- the first of a name is the one at its place

  abbrev first_of : List ℕ → List A → Option A
  first_of name xs = find (λ x. bytes_eq (name_of x) name) xs

  abbrev First : List ℕ → List A → Type 0
  First name xs =
      (found : A) → slice_get xs (place name xs) ≡ Some found
      → bytes_eq (name_of found) name ≡ true → first_of name xs ≡ Some found

  here_or : (b : Bool) (x found : A) (o : Option A) → (b ≡ true → Some x ≡ Some found)
      → (b ≡ false → o ≡ Some found) → cond b (Some x) o ≡ Some found
  here_or true x found o h k = h refl
  here_or false x found o h k = k refl

  first_by : (name : List ℕ) (x : A) (xs : List A) (o : Ordering)
      → slice_cmp nat_cmp name (name_of x) ≡ o → First name xs → (found : A)
      → slice_get (x ∷ xs) (if is_gt o then suc (place name xs) else 0) ≡ Some found
      → bytes_eq (name_of found) name ≡ true → first_of name (x ∷ xs) ≡ Some found
  first_by name x xs Less is more found get named =
      absurd (grind (arith, not_apart name x found Less is get named))
  first_by name x xs Equal is more found get named =
      here_or (bytes_eq (name_of x) name) x found (first_of name xs) (λ h. get) (λ h.
      let wrong : true ≡ false =
      sym named ∙ ap (λ y. bytes_eq (name_of y) name) (sym (some_is x found get)) ∙ h in
      absurd (grind (arith, wrong)))
  first_by name x xs Greater is more found get named =
      here_or (bytes_eq (name_of x) name) x found (first_of name xs)
      (λ h. absurd (not_here name (name_of x) Greater is refl h)) (λ h. more found get named)

  first_is : (name : List ℕ) (xs : List A) → First name xs
  first_is name [] found get named = absurd (grind (arith, get))
  first_is name (x ∷ xs) found get named =
      first_by name x xs (slice_cmp nat_cmp name (name_of x)) refl (first_is name xs) found get
      named

  -- ---- what a place tells

  pub held_low : (name : List ℕ) (xs : List A) (at : ℕ) (h : IsHeldAt name_of name xs at)
      → at < length xs
  held_low name xs at h = slice_get_within xs at h.found h.get

  pub held_is : (name : List ℕ) (xs : List A) (at : ℕ) (h : IsHeldAt name_of name xs at) (x : A)
      → x ≡ get_or xs at x → h.found ≡ x
  held_is name xs at h x is =
      some_is h.found (get_or xs at x)
      (sym h.get ∙ slice_get-get_or xs at x (held_low name xs at h)) ∙ sym is

  pub held_first : (name : List ℕ) (xs : List A) (at : ℕ) (h : IsHeldAt name_of name xs at)
      → first_of name xs ≡ Some h.found
  held_first name xs at h =
      first_is name xs h.found (ap (slice_get xs) (sym h.place) ∙ h.get)
      (same_text (name_of h.found) name h.named)

  pub held_put : (new : A) (over : A → A) (xs : List A) (at : ℕ)
      (h : IsHeldAt name_of (name_of new) xs at)
      → slice_set xs at (over h.found) ≡ put_by name_of new over xs
  held_put new over xs at h =
      ap (λ k. slice_set xs k (over h.found)) h.place
      ∙ put_found new over xs h.found (ap (slice_get xs) (sym h.place) ∙ h.get)
      (same_text (name_of h.found) (name_of new) h.named)

  pub free_put : (new : A) (over : A → A) (xs : List A) (at : ℕ)
      (h : IsFreeAt name_of (name_of new) xs at)
      → insert xs at new ≡ put_by name_of new over xs
  free_put new over xs at h =
      ap (λ k. insert xs k new) h.place
      ∙ put_absent new over xs
      (ap (λ k. is_named name_of (name_of new) (slice_get xs k)) (sym h.place) ∙ h.free)

  -- of the name and the list that were read
  pub held_in : (name read : List ℕ) (xs seen : List A) (at : ℕ) → read ≡ name → seen ≡ xs
      → IsHeldAt name_of read seen at → IsHeldAt name_of name xs at
  held_in name read xs seen at h k is =
      subst (λ ys. IsHeldAt name_of name ys at) k
      (subst (λ n. IsHeldAt name_of n seen at) h is)

  pub free_in : (name read : List ℕ) (xs seen : List A) (at : ℕ) → read ≡ name → seen ≡ xs
      → IsFreeAt name_of read seen at → IsFreeAt name_of name xs at
  free_in name read xs seen at h k is =
      subst (λ ys. IsFreeAt name_of name ys at) k
      (subst (λ n. IsFreeAt name_of n seen at) h is)
