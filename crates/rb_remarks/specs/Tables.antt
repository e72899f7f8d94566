-- Tables of texts.
use Rattle.std.specs.Prelude.{ℕ, List, [], ◌∷◌, bytes_eq, if◌then◌else◌}

-- the text beside a key, or another where the key is not listed
abbrev pub text_by : List (List ℕ × List ℕ) → List ℕ → List ℕ → List ℕ
text_by [] other key = other
text_by (row ∷ rows) other key = if bytes_eq key row.0 then row.1 else text_by rows other key
