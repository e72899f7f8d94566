-- A text as numbered rows, and what a row shows by itself.
use Rattle.std.specs.Prelude.{ℕ, suc, ◌+◌, Bool, false, not, ◌&&◌, nat_eq, List, [], ◌∷◌, drop, Option, Some, None, if◌then◌else◌}
use Rattle.std.specs.List.{list_all, slice_split}
use Rattle.rb_causes.specs.Signs.{tab, carriage_return, space, hash}
use Rattle.rb_causes.specs.Texts.{is_blank, is_line_feed}
use Rattle.rb_yaml.specs.declared.flaw.Flaw.{Flaw}
use Rattle.rb_yaml.specs.declared.flaw.Flaw.TheVariants.{Tab}

-- a line: its number from 1, how many spaces it begins with, and the bytes behind these
pub record Row : Type 0 where
  pub number : ℕ
  pub indent : ℕ
  pub text : List ℕ

-- a text without the blanks that it begins with
abbrev pub past_blanks : List ℕ → List ℕ
past_blanks [] = []
past_blanks (b ∷ bs) = if is_blank b then past_blanks bs else b ∷ bs

-- how many spaces a text begins with
abbrev pub spaces : List ℕ → ℕ
spaces [] = 0
spaces (b ∷ bs) = if nat_eq b space then suc (spaces bs) else 0

abbrev pub row_of : ℕ → List ℕ → Row
row_of number bytes =
    record { number = number; indent = spaces bytes; text = drop (spaces bytes) bytes }

-- a line that ended with CR LF, without its CR
abbrev pub without_return : List ℕ → List ℕ
without_return [] = []
without_return (b ∷ []) = if nat_eq b carriage_return then [] else b ∷ []
without_return (b ∷ c ∷ bs) = b ∷ without_return (c ∷ bs)

-- the lines as rows, numbered from a number on; behind the last one stands no line end
abbrev pub numbered : ℕ → List (List ℕ) → List Row
numbered number [] = []
numbered number (line ∷ []) = row_of number line ∷ []
numbered number (line ∷ next ∷ lines) =
    row_of number (without_return line) ∷ numbered (number + 1) (next ∷ lines)

abbrev pub rows_of : List ℕ → List Row
rows_of bytes = numbered 1 (slice_split is_line_feed bytes)

-- the text begins with this byte
abbrev pub begins : ℕ → List ℕ → Bool
begins c [] = false
begins c (b ∷ bs) = nat_eq b c

abbrev pub is_blank_row : Row → Bool
is_blank_row row = list_all is_blank row.text

abbrev pub is_comment_row : Row → Bool
is_comment_row row = begins hash (past_blanks row.text)

-- neither blank nor a comment
abbrev pub is_content : Row → Bool
is_content row = not (is_blank_row row) && not (is_comment_row row)

-- a tab stands among the blanks that a row which is not blank begins with
abbrev pub is_tabbed : Row → Bool
is_tabbed row = begins tab row.text

abbrev pub tab_flaw : Row → Option Flaw
tab_flaw row = if is_tabbed row then Some Tab else None

-- the first row with content, and the rows behind it
abbrev pub first_content : List Row → Option (Row × List Row)
first_content [] = None
first_content (row ∷ rows) = if is_content row then Some (row, rows) else first_content rows
