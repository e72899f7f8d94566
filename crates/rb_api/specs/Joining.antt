-- Texts that are joined by a text.
use Rattle.std.specs.Prelude.{ℕ, List, [], ◌∷◌, ◌++◌}

-- each of these behind the text that joins
abbrev pub behind_each : List ℕ → List (List ℕ) → List ℕ
behind_each between [] = []
behind_each between (y ∷ ys) = between ++ y ++ behind_each between ys

abbrev pub joined : List ℕ → List (List ℕ) → List ℕ
joined between [] = []
joined between (x ∷ xs) = x ++ behind_each between xs
