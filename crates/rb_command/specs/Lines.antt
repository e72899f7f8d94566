-- Lines that are printed, and the fault lines.
use Rattle.std.specs.Prelude.{ℕ, List, [], ◌∷◌, ◌++◌, codes, decimal, Option, Some, None}

-- the pieces, one behind the other, and a line feed
abbrev pub line_of : List (List ℕ) → List ℕ
line_of [] = codes "\n"
line_of (piece ∷ pieces) = piece ++ line_of pieces

-- a fault line, of these pieces
abbrev pub fault_line : List (List ℕ) → List ℕ
fault_line pieces = line_of (codes "rundeskd: " ∷ pieces)

abbrev pub usage_line : List ℕ
usage_line = fault_line (codes "usage" ∷ [])

abbrev pub memory_line : List ℕ
memory_line = fault_line (codes "out of memory" ∷ [])

abbrev pub shelf_line : List ℕ
shelf_line = fault_line (codes "shelf failed" ∷ [])

abbrev pub absent_line : List ℕ → List ℕ
absent_line name = fault_line (name ∷ codes ": not there" ∷ [])

-- what is spoken of, in brackets, where there is something
abbrev pub bracketed : Option (List ℕ) → List ℕ
bracketed None = []
bracketed (Some text) = codes "(" ++ text ++ codes ")"

-- rundeskd: FILE, the mark, NUMBER: KIND, and behind the kind what it speaks of, where it does
abbrev pub place_line : List ℕ → List ℕ → ℕ → List ℕ → Option (List ℕ) → List ℕ
place_line file mark number kind text =
    fault_line (file ∷ mark ∷ decimal number ∷ codes ": " ∷ kind ∷ bracketed text ∷ [])

-- rundeskd: FILE, the mark, NUMBER: KEY: KIND
abbrev pub key_line : List ℕ → List ℕ → ℕ → List ℕ → List ℕ → List ℕ
key_line file mark number key kind =
    fault_line (file ∷ mark ∷ decimal number ∷ codes ": " ∷ key ∷ codes ": " ∷ kind ∷ [])

-- rundeskd: FILE:LINE: RULE, and behind the rule the form that it speaks of, where it does
abbrev pub rule_line : List ℕ → ℕ → List ℕ → Option (List ℕ) → List ℕ
rule_line file line rule form = place_line file (codes ":") line rule form
