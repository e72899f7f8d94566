-- Items by the places of their ids.
use Rattle.std.proofs.Common.{◌≡◌, ℕ, suc, ◌+◌, Bool, true, false, cond, bytes_eq, Option, Some, None, List, [], ◌∷◌, ◌++◌, length, map, is_some, MatchOption, IfSome, Bor, get_or, ltb, refl, ap, sym, ◌∙◌, subst, arith}
use Rattle.std.specs.List.{find, position_from, slice_get}
use Rattle.std.specs.Option.{option_copied}
use Rattle.std.proofs.lemmas.Bool.{ltb-true, ltb-false}
use Rattle.std.proofs.lemmas.Option.{slice_get_past, slice_get_read}
use Rattle.std.proofs.lemmas.Slice.Eq.{bytes_eq-Decides}

abbrev Ids : Type 0
Ids = List (List ℕ)

abbrev pub place_in : Ids → List ℕ → Option ℕ
place_in ids id = position_from (λ known. bytes_eq known id) 0 ids

-- ---- one id more

module _ (test : List ℕ → Bool) (x : List ℕ) where
  more_apart : test x ≡ false → (k : ℕ) (ids : Ids) → position_from test k (ids ++ x ∷ []) ≡ position_from test k ids
  more_apart isnt k [] = rw isnt refl
  more_apart isnt k (y ∷ ys) = ap (cond (test y) (Some k)) (more_apart isnt (k + 1) ys)

  more_here : test x ≡ true → (k : ℕ) (ids : Ids) → position_from test k ids ≡ None → position_from test k (ids ++ x ∷ []) ≡ Some (k + length ids)
  more_here is k [] none = let same : k ≡ k + 0 = omega arith in rw is (ap Some same)
  more_here is k (y ∷ ys) none = by_first (test y) none (more_here is (k + 1) ys)
    where
      by_first : (b : Bool) → cond b (Some k) (position_from test (k + 1) ys) ≡ None
          → (position_from test (k + 1) ys ≡ None → position_from test (k + 1) (ys ++ x ∷ []) ≡ Some ((k + 1) + length ys))
          → cond b (Some k) (position_from test (k + 1) (ys ++ x ∷ [])) ≡ Some (k + suc (length ys))
      by_first true never later = absurd cc
      by_first false none later = let same : (k + 1) + length ys ≡ k + suc (length ys) = omega arith in later none ∙ ap Some same

  more_known : (k : ℕ) (ids : Ids) → is_some (position_from test k ids) ≡ true → position_from test k (ids ++ x ∷ []) ≡ position_from test k ids
  more_known k [] known = absurd cc
  more_known k (y ∷ ys) known = by_first (test y) known (more_known (k + 1) ys)
    where
      by_first : (b : Bool) → is_some (cond b (Some k) (position_from test (k + 1) ys)) ≡ true
          → (is_some (position_from test (k + 1) ys) ≡ true → position_from test (k + 1) (ys ++ x ∷ []) ≡ position_from test (k + 1) ys)
          → cond b (Some k) (position_from test (k + 1) (ys ++ x ∷ [])) ≡ cond b (Some k) (position_from test (k + 1) ys)
      by_first true known later = refl
      by_first false known later = later known

-- an id that stands there already changes no place
pub place_stays : (ids : Ids) (x q : List ℕ) → is_some (place_in ids x) ≡ true → place_in (ids ++ x ∷ []) q ≡ place_in ids q
place_stays ids x q known = by_same (bytes_eq x q) refl
  where
    by_same : (b : Bool) → bytes_eq x q ≡ b → place_in (ids ++ x ∷ []) q ≡ place_in ids q
    by_same true is =
        let same : x ≡ q = (bytes_eq-Decides x q).0 is in
        more_known (λ y. bytes_eq y q) x 0 ids (subst (λ w. is_some (place_in ids w) ≡ true) same known)
    by_same false is = more_apart (λ y. bytes_eq y q) x is 0 ids

-- a new one stands at the end
pub place_added : (ids : Ids) (x q : List ℕ) (place : ℕ) → place ≡ length ids → place_in ids x ≡ None → cond (bytes_eq x q) (Some place) (place_in ids q) ≡ place_in (ids ++ x ∷ []) q
place_added ids x q place last new = by_same (bytes_eq x q) refl
  where
    by_same : (b : Bool) → bytes_eq x q ≡ b → cond b (Some place) (place_in ids q) ≡ place_in (ids ++ x ∷ []) q
    by_same true is =
        let same : x ≡ q = (bytes_eq-Decides x q).0 is in
        let at : place ≡ 0 + length ids = omega (arith, last) in
        ap Some at ∙ sym (more_here (λ y. bytes_eq y q) x is 0 ids (subst (λ w. place_in ids w ≡ None) same new))
    by_same false is = sym (more_apart (λ y. bytes_eq y q) x is 0 ids)

-- ---- the item at a place

module _ {X : Type 0} (id_of : X → List ℕ) where
  -- none at a place, or the first that has the id
  abbrev pub FoundAt : ℕ → List X → List ℕ → Option ℕ → Type 0
  FoundAt k xs id place =
      MatchOption place (find (λ x. bytes_eq (id_of x) id) xs ≡ None) (λ at. (i : ℕ) × (at ≡ k + i) × (find (λ x. bytes_eq (id_of x) id) xs ≡ slice_get xs i))

  later_one : (k : ℕ) (y : X) (ys : List X) (id : List ℕ) (o : Option ℕ) → bytes_eq (id_of y) id ≡ false → FoundAt (k + 1) ys id o → FoundAt k (y ∷ ys) id o
  later_one k y ys id None isnt found = rw isnt found
  later_one k y ys id (Some at) isnt (i, is, found) = (suc i, omega (arith, is), rw isnt found)

  pub found_at : (k : ℕ) (xs : List X) (id : List ℕ) → FoundAt k xs id (position_from (λ known. bytes_eq known id) k (map id_of xs))
  found_at k [] id = refl
  found_at k (y ∷ ys) id = by_first (found_at (k + 1) ys id) (bytes_eq (id_of y) id) refl
    where
      by_first : FoundAt (k + 1) ys id (position_from (λ known. bytes_eq known id) (k + 1) (map id_of ys)) → (b : Bool) → bytes_eq (id_of y) id ≡ b → FoundAt k (y ∷ ys) id (cond b (Some k) (position_from (λ known. bytes_eq known id) (k + 1) (map id_of ys)))
      by_first later true is = (0, omega arith, rw is refl)
      by_first later false is = later_one k y ys id (position_from (λ known. bytes_eq known id) (k + 1) (map id_of ys)) is later

  pub found_none : (xs : List X) (id : List ℕ) → place_in (map id_of xs) id ≡ None → find (λ x. bytes_eq (id_of x) id) xs ≡ None
  found_none xs id none = subst (FoundAt 0 xs id) none (found_at 0 xs id)

  pub found_some : (xs : List X) (id : List ℕ) (at : ℕ) → place_in (map id_of xs) id ≡ Some at → find (λ x. bytes_eq (id_of x) id) xs ≡ slice_get xs at
  found_some xs id at some =
      let found = subst (FoundAt 0 xs id) some (found_at 0 xs id) in
      let same : found.0 ≡ at = omega (arith, found.1) in
      found.2 ∙ ap (slice_get xs) same

pub none_at : (place : Option ℕ) → is_some place ≡ false → place ≡ None
none_at None none = refl
none_at (Some at) none = absurd cc

-- what `get` gives is what stands at the place
pub looked : {X : Type 0} (o : Option (Bor X)) (xs : List X) (at : ℕ) → is_some o ≡ ltb at (length xs) → IfSome o (λ x. x.now ≡ get_or xs at x.now) → option_copied o ≡ slice_get xs at
looked None xs at there item = sym (slice_get_past xs at (ltb-false at (length xs) (sym there)))
looked (Some x) xs at there item = sym (slice_get_read xs (length xs) at x.now refl (ltb-true at (length xs) (sym there)) item)
