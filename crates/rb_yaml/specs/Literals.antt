-- Literals: texts whose rows stand as they are.
use Rattle.std.specs.Prelude.{ℕ, ◌+◌, ◌-◌, Bool, true, not, ◌||◌, ◌&&◌, nat_eq, nat_lt, List, [], ◌∷◌, ◌++◌, reverse, replicate, drop, length, Option, Some, None, Result, Ok, Err, if◌then◌else◌}
use Rattle.rb_causes.specs.Signs.{line_feed, space, hyphen}
use Rattle.rb_causes.specs.Texts.{is_empty}
use Rattle.rb_yaml.specs.declared.flaw.Excluded.TheVariants.{LiteralForm}
use Rattle.rb_yaml.specs.declared.flaw.Flaw.{Flaw}
use Rattle.rb_yaml.specs.declared.flaw.Flaw.TheVariants.{Indent, OutOfProfile}
use Rattle.rb_yaml.specs.declared.flaw.Fault.{Fault}
use Rattle.rb_yaml.specs.Faults.{◌>>=◌, fault_at}
use Rattle.rb_yaml.specs.Rows.{Row, begins, is_blank_row, is_comment_row}
use Rattle.rb_yaml.specs.Signs.{is_clear}
use Rattle.rb_yaml.specs.Tree.{scalar}
use Rattle.rb_yaml.specs.Scalars.{TreeReading, complete}

-- what stands behind the bar and its hyphen
abbrev pub behind_bar : List ℕ → List ℕ
behind_bar text = if begins hyphen (drop 1 text) then drop 2 text else drop 1 text

abbrev pub literal_flaw : List ℕ → Option Flaw
literal_flaw text = if is_clear (behind_bar text) then None else Some (OutOfProfile LiteralForm)

-- the first row that is not blank
abbrev pub first_filled : List Row → Option Row
first_filled [] = None
first_filled (row ∷ rows) = if is_blank_row row then first_filled rows else Some row

abbrev pub width : Row → ℕ
width row = row.indent + length row.text

-- the bytes of a row without so many blanks
abbrev pub taken_off : ℕ → Row → List ℕ
taken_off indent row =
    drop (indent - row.indent) (replicate (row.indent - indent) space ++ row.text)

-- a literal of this indent ends before the row
abbrev pub ends_literal : ℕ → ℕ → Row → Bool
ends_literal floor indent row =
    not (is_blank_row row)
    && (nat_lt row.indent floor || (is_comment_row row && nat_lt row.indent indent))

-- The row has an indent that no row of the literal has: one that is not blank a smaller one, a
-- blank one before the first that is not a larger one.
abbrev pub is_misplaced : ℕ → Bool → Row → Bool
is_misplaced indent leading row =
    if is_blank_row row then leading && nat_lt indent (width row) else nat_lt row.indent indent

-- The texts of a literal's rows, each ended by a line feed, and the rows behind it. Are all rows so
-- far blank?
abbrev pub literal_rows : ℕ → ℕ → Bool → List Row → Result (List ℕ × List Row) Fault
literal_rows floor indent leading [] = Ok ([], [])
literal_rows floor indent leading (row ∷ rows) =
    if ends_literal floor indent row then Ok ([], row ∷ rows)
    else if is_misplaced indent leading row then Err (fault_at row.number Indent)
    else literal_rows floor indent (leading && is_blank_row row) rows
    >>= λ more. Ok (taken_off indent row ++ line_feed ∷ more.0, more.1)

-- without the line feeds that it begins with
abbrev pub past_feeds : List ℕ → List ℕ
past_feeds [] = []
past_feeds (b ∷ bs) = if nat_eq b line_feed then past_feeds bs else b ∷ bs

abbrev pub without_feeds : List ℕ → List ℕ
without_feeds text = reverse (past_feeds (reverse text))

-- the line feeds at the end fall away, but one where it is kept and some text stands before it
abbrev pub literal_text : Bool → List ℕ → List ℕ
literal_text keep text =
    without_feeds text
    ++ (if keep && not (is_empty (without_feeds text)) then line_feed ∷ [] else [])

-- the literal behind its first row, with the first row of its own that is not blank
abbrev pub literal_at : ℕ → ℕ → Bool → Option Row → List Row → TreeReading
literal_at number floor keep None rows = complete (scalar number []) rows
literal_at number floor keep (Some first) rows =
    if nat_lt first.indent floor then complete (scalar number []) rows
    else literal_rows floor first.indent true rows
    >>= λ read. complete (scalar number (literal_text keep read.0)) read.1

abbrev pub literal_of : ℕ → Row → List Row → TreeReading
literal_of floor head rows =
    literal_at head.number floor (not (begins hyphen (drop 1 head.text))) (first_filled rows) rows
