-- Plain and quoted texts as values of a row, with the rows behind it over which they may go on.
use Rattle.std.specs.Prelude.{ℕ, zero, suc, Bool, false, ◌||◌, ◌&&◌, nat_le, is_some, is_none, List, [], ◌∷◌, ◌++◌, replicate, drop, Option, Some, None, Result, Ok, Err, if◌then◌else◌}
use Rattle.rb_causes.specs.Signs.{line_feed, space}
use Rattle.rb_yaml.specs.declared.flaw.Excluded.TheVariants.{MultiLineDoubleQuote}
use Rattle.rb_yaml.specs.declared.flaw.Flaw.{Flaw}
use Rattle.rb_yaml.specs.declared.flaw.Flaw.TheVariants.{Indent, OutOfProfile, Form}
use Rattle.rb_yaml.specs.declared.flaw.Fault.{Fault}
use Rattle.rb_yaml.specs.Faults.{foremost, either, fault_at, flaw_or}
use Rattle.rb_yaml.specs.Rows.{Row, is_blank_row, is_comment_row, tab_flaw, first_content}
use Rattle.rb_yaml.specs.Signs.{is_clear, has_comment, plain_part, without_end, has_colon, start_flaw}
use Rattle.rb_yaml.specs.Quotes.{Quoted, single_from, double_from}
use Rattle.rb_yaml.specs.Tree.{YamlTree, scalar}

-- A reading of rows: the value, or the first fault.
abbrev pub TreeReading : Type 0
TreeReading = Result YamlTree Fault

-- a value that is complete: no row behind it may have content
abbrev pub complete : YamlTree → List Row → TreeReading
complete v rows = unless_left v (first_content rows)
  where
    unless_left : YamlTree → Option (Row × List Row) → TreeReading
    unless_left v None = Ok v
    unless_left v (Some left) = Err (fault_at left.0.number (foremost Indent (tab_flaw left.0)))

-- What stands between two lines of a text that goes on: a blank, or a line feed for each blank line
-- between.
abbrev pub gap : ℕ → List ℕ
gap zero = space ∷ []
gap (suc n) = replicate (suc n) line_feed

-- ---- plain texts

-- the sign of a key stands in a row of a plain text
abbrev pub colon_flaw : List ℕ → Option Flaw
colon_flaw text = if has_colon (plain_part text) then Some Form else None

-- what is wrong with the first row of a plain text
abbrev pub plain_flaw : List ℕ → Option Flaw
plain_flaw text = either (start_flaw text) (colon_flaw text)

-- a plain text so far, after so many blank lines
abbrev pub plain_more : ℕ → List ℕ → ℕ → List Row → TreeReading
plain_more number text blanks [] = Ok (scalar number text)
plain_more number text blanks (row ∷ rows) =
    if is_blank_row row then plain_more number text (suc blanks) rows
    else if is_comment_row row then complete (scalar number text) rows
    else flaw_or (either (tab_flaw row) (colon_flaw row.text)) row.number
    (let more = text ++ gap blanks ++ plain_part row.text in
    if has_comment row.text then complete (scalar number more) rows
    else plain_more number more zero rows)

abbrev pub plain_of : Row → List Row → TreeReading
plain_of head rows =
    if has_comment head.text then complete (scalar head.number (plain_part head.text)) rows
    else plain_more head.number (plain_part head.text) zero rows

-- ---- quoted texts

-- Some row of the text that goes on has its closing quote. Each but a blank one has an indent of at
-- least the floor.
abbrev pub has_closing_quote : ℕ → List Row → Bool
has_closing_quote floor [] = false
has_closing_quote floor (row ∷ rows) =
    if is_blank_row row then has_closing_quote floor rows
    else nat_le floor row.indent
    && (is_some (single_from false row.text).rest || has_closing_quote floor rows)

-- something stands behind the closing quote
abbrev pub close_flaw : Option (List ℕ) → Option Flaw
close_flaw None = None
close_flaw (Some rest) = if is_clear rest then None else Some Form

-- a single-quoted text so far, after so many blank lines
abbrev pub single_more : ℕ → List ℕ → ℕ → List Row → TreeReading
single_more number text blanks [] = Ok (scalar number text)
single_more number text blanks (row ∷ rows) =
    if is_blank_row row then single_more number text (suc blanks) rows
    else (let q = single_from false row.text in
    flaw_or (either (tab_flaw row) (close_flaw q.rest)) row.number
    (if is_some q.rest then complete (scalar number (text ++ gap blanks ++ q.text)) rows
    else single_more number (text ++ gap blanks ++ without_end q.text) zero rows))

-- a single-quoted text that its row does not close
abbrev pub single_over : ℕ → Row → List ℕ → List Row → TreeReading
single_over floor head text rows =
    if has_closing_quote floor rows then single_more head.number (without_end text) zero rows
    else Err (fault_at head.number Form)

abbrev pub single_of : ℕ → Row → List Row → TreeReading
single_of floor head rows =
    let q = single_from false (drop 1 head.text) in
    flaw_or (close_flaw q.rest) head.number
    (if is_some q.rest then complete (scalar head.number q.text) rows
    else single_over floor head q.text rows)

-- a double-quoted text has no closing quote on its row
abbrev pub open_flaw : Quoted → Option Flaw
open_flaw q = if is_none q.rest then Some (OutOfProfile MultiLineDoubleQuote) else None

-- an escape is not known
abbrev pub escape_flaw : Quoted → Option Flaw
escape_flaw q = if q.good then None else Some Form

-- what is wrong with a double-quoted text
abbrev pub quoted_flaw : Quoted → Option Flaw
quoted_flaw q = either (open_flaw q) (either (escape_flaw q) (close_flaw q.rest))

abbrev pub double_flaw : List ℕ → Option Flaw
double_flaw text = quoted_flaw (double_from false (drop 1 text))

abbrev pub double_of : Row → List Row → TreeReading
double_of head rows =
    flaw_or (double_flaw head.text) head.number
    (complete (scalar head.number (double_from false (drop 1 head.text)).text) rows)
