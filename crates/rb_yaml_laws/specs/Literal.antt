-- Literals: the rows behind a bar, each a line of the text.
use Rattle.std.specs.Prelude.{◌≡◌, ◌≢◌, ◌≤◌, ◌<◌, ◌⊎◌, ℕ, Bool, false, List, [], ◌∷◌, ◌++◌, if◌then◌else◌}
use Rattle.std.specs.List.{AllByRecursion as Each}
use Rattle.rb_causes.specs.Signs.{line_feed}
use Rattle.rb_yaml.specs.Rows.{Row, is_blank_row}
use Rattle.rb_yaml.specs.Literals.{width, taken_off}
use Rattle.rb_yaml_laws.specs.Bare.{Bare}
use Rattle.rb_yaml_laws.specs.Plain.{IsBlank}

-- nothing is left, or first a row that is not blank and stands before this column
abbrev pub EndsBefore : ℕ → List Row → Type 0
EndsBefore column [] = Unit {0}
EndsBefore column (row ∷ rows) = (is_blank_row row ≡ false) × (row.indent < column)

-- each row without the indent, ended by a line feed
abbrev pub lines_of : ℕ → List Row → List ℕ
lines_of indent [] = []
lines_of indent (row ∷ rows) = taken_off indent row ++ line_feed ∷ lines_of indent rows

-- The text of the lines, where the line feeds at its end fall away, but one where it is kept and
-- some text stands before it.
pub data Ended (keep : Bool) : List ℕ → List ℕ → Type 0 where
  -- nothing but line feeds
  empty : {feeds : List ℕ} → Each (λ b. b ≡ line_feed) feeds → Ended keep feeds []
  -- some text, up to its last byte that is none
  text : (front : List ℕ) (b : ℕ) (feeds : List ℕ) → b ≢ line_feed →
      Each (λ c. c ≡ line_feed) feeds →
      Ended keep (front ++ b ∷ feeds) (front ++ b ∷ (if keep then line_feed ∷ [] else []))

-- What a literal says. Its indent is that of its first row that is not blank; no row of it stands
-- before that, and no blank one before its first is longer.
pub data Literal (floor : ℕ) (keep : Bool) : List Row → List ℕ → Type 0 where
  -- no row stands at the floor: nothing
  empty : (blanks behind : List Row) → Each IsBlank blanks → EndsBefore floor behind → Bare behind →
      Literal floor keep (blanks ++ behind) []
  -- blank rows, the first that is not, and those up to what stands before it
  lines : (blanks : List Row) (first : Row) (body behind : List Row) {said : List ℕ} →
      Each (λ row. IsBlank row × (width row ≤ first.indent)) blanks →
      is_blank_row first ≡ false → floor ≤ first.indent →
      Each (λ row. IsBlank row ⊎ (first.indent ≤ row.indent)) body →
      EndsBefore first.indent behind → Bare behind →
      Ended keep (lines_of first.indent (blanks ++ first ∷ body)) said →
      Literal floor keep (blanks ++ first ∷ body ++ behind) said
