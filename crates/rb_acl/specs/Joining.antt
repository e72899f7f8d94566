-- The rest of a joined text.
use Rattle.rb_causes.specs.Signs.{comma}
use Rattle.std.specs.Prelude.{ℕ, List, [], ◌∷◌, ◌++◌}

-- each text with a comma before it, as they stand behind the first of a joined text
abbrev pub joined_rest : List (List ℕ) → List ℕ
joined_rest [] = []
joined_rest (x ∷ xs) = comma ∷ (x ++ joined_rest xs)
