-- Where a name stands in a list in order of names.
use Rattle.std.specs.Prelude.{◌≡◌, ◌≤◌, ℕ, suc, Bool, false, List, [], ◌∷◌, length, map, Option, Some, None, bytes_eq, slice_get, if◌then◌else◌}
use Rattle.std.specs.Ordering.{nat_cmp, is_gt}
use Rattle.std.specs.Cmp.Lexicographic.{slice_cmp}

-- how many of these names the name is behind, up to the first that it is not behind
abbrev pub place_in : List ℕ → List (List ℕ) → ℕ
place_in name [] = 0
place_in name (x ∷ xs) = if is_gt (slice_cmp nat_cmp name x) then suc (place_in name xs) else 0

-- it is there, and has this name
abbrev pub is_named : {A : Type 0} → (A → List ℕ) → List ℕ → Option A → Bool
is_named name_of name None = false
is_named name_of name (Some x) = bytes_eq (name_of x) name

-- one of this name stands at this place, which is the place of the name
pub record IsHeldAt {A : Type 0} (name_of : A → List ℕ) (name : List ℕ) (xs : List A) (at : ℕ)
    : Type 0 where
  pub found : A
  pub get : slice_get xs at ≡ Some found
  pub named : name_of found ≡ name
  pub place : at ≡ place_in name (map name_of xs)

-- none of this name stands at the place of the name
pub record IsFreeAt {A : Type 0} (name_of : A → List ℕ) (name : List ℕ) (xs : List A) (at : ℕ)
    : Type 0 where
  pub free : is_named name_of name (slice_get xs at) ≡ false
  pub place : at ≡ place_in name (map name_of xs)
  pub within : at ≤ length xs
