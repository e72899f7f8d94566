-- Plain and single-quoted texts that go on over the rows behind their first.
use Rattle.std.specs.Prelude.{◌≡◌, ◌≤◌, ℕ, Bool, true, false, ◌||◌, None, List, [], ◌∷◌, ◌++◌, length}
use Rattle.std.specs.List.{AllByRecursion as Each}
use Rattle.rb_causes.specs.Signs.{double_quote, opening_brace, opening_bracket, single_quote, vertical_bar}
use Rattle.rb_yaml.specs.Rows.{Row, begins, is_blank_row, is_content, is_tabbed}
use Rattle.rb_yaml.specs.Signs.{is_clear, has_comment, has_colon, plain_part, without_end, start_flaw}
use Rattle.rb_yaml.specs.Scalars.{gap}
use Rattle.rb_yaml_laws.specs.Bare.{Bare}
use Rattle.rb_yaml_laws.specs.Quotes.{Single, SingleOpen}

-- the first byte is that of a literal, a quoted text or a flow
abbrev pub begins_other : List ℕ → Bool
begins_other text =
    (begins vertical_bar text || begins single_quote text)
    || (begins double_quote text || (begins opening_bracket text || begins opening_brace text))

-- a plain text may stand so on its first row: no sign with a meaning of its own begins it, and none
-- of a key stands in it
abbrev pub IsPlain : List ℕ → Type 0
IsPlain text = (begins_other text ≡ false) × (start_flaw text ≡ None)
    × (has_colon (plain_part text) ≡ false)

-- the row has nothing but blanks
abbrev pub IsBlank : Row → Type 0
IsBlank row = is_blank_row row ≡ true

-- a plain text goes on over this row
abbrev pub GoesOn : Row → Type 0
GoesOn row = (is_content row ≡ true) × (is_tabbed row ≡ false)
    × (has_colon (plain_part row.text) ≡ false)

-- What the rows behind a plain text add to it: at each join a blank, or a line feed for each blank
-- row between. A comment ends it.
pub data PlainOver : List Row → List ℕ → Type 0 where
  -- nothing: no row has content
  ends : {rows : List Row} → Bare rows → PlainOver rows []
  -- one row more, and a comment on it
  last : (blanks : List Row) (row : Row) (rows : List Row) → Each IsBlank blanks → GoesOn row →
      has_comment row.text ≡ true →
      Bare rows → PlainOver (blanks ++ row ∷ rows) (gap (length blanks) ++ plain_part row.text)
  -- one row more, and what follows it
  more : (blanks : List Row) (row : Row) (rows : List Row) {said : List ℕ} →
      Each IsBlank blanks → GoesOn row → has_comment row.text ≡ false →
      PlainOver rows said →
      PlainOver (blanks ++ row ∷ rows) (gap (length blanks) ++ plain_part row.text ++ said)

-- a row that is not blank, has no tab before its text and stands at this column or further in
abbrev pub StandsFrom : ℕ → Row → Type 0
StandsFrom column row = (is_blank_row row ≡ false) × (is_tabbed row ≡ false) × (column ≤ row.indent)

-- What the rows behind a single-quoted text add to it, up to the one with the closing quote, joined
-- in the same way.
pub data SingleOver (floor : ℕ) : List Row → List ℕ → Type 0 where
  -- the row with the closing quote, behind which nothing may follow
  last : (blanks : List Row) (row : Row) (rows : List Row) {said rest : List ℕ} →
      Each IsBlank blanks → StandsFrom floor row →
      Single row.text said rest → is_clear rest ≡ true → Bare rows →
      SingleOver floor (blanks ++ row ∷ rows) (gap (length blanks) ++ said)
  -- one row without it, whose blanks at the end fall away
  more : (blanks : List Row) (row : Row) (rows : List Row) {part said : List ℕ} →
      Each IsBlank blanks → StandsFrom floor row →
      SingleOpen row.text part → SingleOver floor rows said →
      SingleOver floor (blanks ++ row ∷ rows) (gap (length blanks) ++ without_end part ++ said)
