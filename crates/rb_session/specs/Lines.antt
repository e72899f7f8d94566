-- How a session ends: statuses, and the lines that tell them.
use Rattle.std.specs.Prelude.{ℕ, List, [], ◌∷◌, codes, decimal, Option}
use Rattle.rb_command.specs.Lines.{bracketed, fault_line}

-- a status, and the line that tells it
pub record Stop : Type 0 where
  pub status : ℕ
  pub line : List ℕ

abbrev pub stop_with : ℕ → List ℕ → Stop
stop_with status line = record { status = status; line = line }

-- rundeskd: FILE: KIND, or KIND(TEXT)
abbrev pub kind_line : List ℕ → List ℕ → Option (List ℕ) → List ℕ
kind_line file kind text = fault_line (file ∷ codes ": " ∷ kind ∷ bracketed text ∷ [])

abbrev pub store_line : List ℕ
store_line = fault_line (codes "store failed" ∷ [])

abbrev pub full_line : List ℕ
full_line = fault_line (codes "store is full" ∷ [])

abbrev pub line_line : List ℕ
line_line = fault_line (codes "line failed" ∷ [])

abbrev pub callers_line : List ℕ
callers_line = fault_line (codes "too many callers" ∷ [])

-- the row of this number may not stand in the store
abbrev pub row_line : ℕ → List ℕ
row_line n = fault_line (codes "store row " ∷ decimal n ∷ codes " is not legal" ∷ [])
