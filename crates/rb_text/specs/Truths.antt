-- Marks of many things, one for each in their order.
use Rattle.std.specs.Prelude.{Bool, not, ◌&&◌, ◌||◌, List, map, zip}

-- marked in both
abbrev pub both_true : List Bool → List Bool → List Bool
both_true first second = map (λ (a, b). a && b) (zip first second)

-- marked in one of them
abbrev pub one_true : List Bool → List Bool → List Bool
one_true first second = map (λ (a, b). a || b) (zip first second)

-- marked in the first alone
abbrev pub first_true_alone : List Bool → List Bool → List Bool
first_true_alone first second = map (λ (a, b). a && not b) (zip first second)
