-- What a text says with the rows behind it, where it is no block sequence and no block map.
use Rattle.std.specs.Prelude.{◌≡◌, ℕ, true, false, List, ◌∷◌, ◌++◌, map}
use Rattle.rb_causes.specs.Signs.{closing_brace, closing_bracket, double_quote, hyphen, opening_brace, opening_bracket, single_quote, vertical_bar}
use Rattle.rb_yaml.specs.Rows.{Row}
use Rattle.rb_yaml.specs.Signs.{is_clear, has_comment, plain_part, without_end}
use Rattle.rb_yaml.specs.Tree.{YamlTree, scalar, seq, mapping, trees_of, entries_of}
use Rattle.rb_yaml_laws.specs.Bare.{Bare}
use Rattle.rb_yaml_laws.specs.Quotes.{Single, SingleOpen, Double}
use Rattle.rb_yaml_laws.specs.Plain.{IsPlain, PlainOver, SingleOver}
use Rattle.rb_yaml_laws.specs.Literal.{Literal}
use Rattle.rb_yaml_laws.specs.InFlow.{InFlow}
use Rattle.rb_yaml_laws.specs.Keys.{Differ}

-- A scalar. One in quotes may go on over rows from a column on, the floor; so may a literal.
pub data Says (floor : ℕ) : List ℕ → List Row → List ℕ → Type 0 where
  -- a plain text that a comment ends on its row
  plain : {text : List ℕ} {rows : List Row} → IsPlain text → has_comment text ≡ true →
      Bare rows → Says floor text rows (plain_part text)
  -- a plain text with none, which may go on over the rows behind it
  plain_over : {text said : List ℕ} {rows : List Row} → IsPlain text → has_comment text ≡ false →
      PlainOver rows said →
      Says floor text rows (plain_part text ++ said)
  -- in single quotes, closed on its row
  single : {text said rest : List ℕ} {rows : List Row} → Single text said rest →
      is_clear rest ≡ true → Bare rows → Says floor (single_quote ∷ text) rows said
  -- in single quotes, closed on a row behind it; the blanks at the joins fall away
  single_over : {text part said : List ℕ} {rows : List Row} → SingleOpen text part →
      SingleOver floor rows said →
      Says floor (single_quote ∷ text) rows (without_end part ++ said)
  -- in double quotes, closed on its row
  double : {text said rest : List ℕ} {rows : List Row} → Double text said rest →
      is_clear rest ≡ true → Bare rows → Says floor (double_quote ∷ text) rows said
  -- a bar, and nothing else on its row: a literal that keeps one line feed at its end
  literal : {rest said : List ℕ} {rows : List Row} → is_clear rest ≡ true →
      Literal floor true rows said → Says floor (vertical_bar ∷ rest) rows said
  -- a bar with a hyphen: a literal that keeps none
  stripped : {rest said : List ℕ} {rows : List Row} → is_clear rest ≡ true →
      Literal floor false rows said → Says floor (vertical_bar ∷ hyphen ∷ rest) rows said

-- A scalar or a flow, told with its line.
pub data Alone (floor line : ℕ) : List ℕ → List Row → YamlTree → Type 0 where
  -- a scalar
  one : {text said : List ℕ} {rows : List Row} → Says floor text rows said →
      Alone floor line text rows (scalar line said)
  -- between square brackets, each item a scalar
  flow_sequence : {text rest : List ℕ} {items : List (List ℕ × List ℕ)} {rows : List Row} →
      InFlow closing_bracket text items rest → is_clear rest ≡ true → Bare rows →
      Alone floor line (opening_bracket
      ∷ text) rows (seq line (trees_of (map (λ item. scalar line item.1) items)))
  -- between braces, each item a key and a scalar, and no key twice
  flow_map : {text rest : List ℕ} {items : List (List ℕ × List ℕ)} {rows : List Row} →
      InFlow closing_brace text items rest → is_clear rest ≡ true → Bare rows →
      Differ (map (λ item. item.0) items) →
      Alone floor line (opening_brace
      ∷ text) rows
      (mapping line (entries_of (map (λ item. (item.0, scalar line item.1)) items)))
