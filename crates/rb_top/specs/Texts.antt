-- Texts of a drill that are parted at bytes, and joined again.
use Rattle.std.specs.Prelude.{ℕ, Bool, nat_eq, List, [], ◌∷◌, ◌++◌}
use Rattle.rb_causes.specs.Signs.{space, comma}

abbrev pub is_comma : ℕ → Bool
is_comma b = nat_eq b comma

-- words with a space before each
abbrev pub with_spaces : List (List ℕ) → List ℕ
with_spaces [] = []
with_spaces (w ∷ ws) = space ∷ w ++ with_spaces ws

-- words with one space between them
abbrev pub spaced : List (List ℕ) → List ℕ
spaced [] = []
spaced (w ∷ ws) = w ++ with_spaces ws
