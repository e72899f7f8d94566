-- Single-quoted texts that stay open.
use Rattle.std.specs.Prelude.{◌≡◌, ◌⊎◌, ℕ, List, ◌∷◌, ◌++◌}
use Rattle.std.specs.List.{AllByRecursion as Each}
use Rattle.rb_causes.specs.Signs.{single_quote}
use Rattle.rb_yaml.specs.Rows.{Row}
use Rattle.rb_yaml_laws.specs.Quotes.{SingleOpen}
use Rattle.rb_yaml_laws.specs.Plain.{IsBlank}

-- a row that does not close the quote
abbrev pub KeepsOpen : Row → Type 0
KeepsOpen row = IsBlank row ⊎ ((said : List ℕ) × SingleOpen row.text said)

-- A quote stands in this text, and neither the text nor one of the rows behind it closes it.
pub record OpenFrom (text : List ℕ) (rows : List Row) : Type 0 where
  pub front : List ℕ
  pub inside : List ℕ
  pub said : List ℕ
  pub is : text ≡ front ++ single_quote ∷ inside
  pub unclosed : SingleOpen inside said
  pub behind : Each KeepsOpen rows

-- A quote that stands on one of these rows is not closed up to the last of them.
pub record HasOpenQuote (rows : List Row) : Type 0 where
  pub before : List Row
  pub head : Row
  pub behind : List Row
  pub all : rows ≡ before ++ head ∷ behind
  pub quote : OpenFrom head.text behind
