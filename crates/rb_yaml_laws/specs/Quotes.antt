-- Texts in quotes on one row, from behind the opening quote on.
use Rattle.std.specs.Prelude.{◌≡◌, ◌≢◌, ℕ, false, List, [], ◌∷◌, Some}
use Rattle.rb_causes.specs.Signs.{backslash, double_quote, single_quote}
use Rattle.rb_yaml.specs.Rows.{begins}
use Rattle.rb_yaml.specs.Quotes.{escaped}

-- In single quotes: what it says, and what stands behind the closing quote. Two quotes are one, and
-- one alone closes.
pub data Single : List ℕ → List ℕ → List ℕ → Type 0 where
  -- one quote
  closing : {rest : List ℕ} → begins single_quote rest ≡ false →
      Single (single_quote ∷ rest) [] rest
  -- two quotes
  quote : {text said rest : List ℕ} → Single text said rest →
      Single (single_quote ∷ single_quote ∷ text) (single_quote ∷ said) rest
  -- any other byte
  other : {b : ℕ} {text said rest : List ℕ} → b ≢ single_quote → Single text said rest →
      Single (b ∷ text) (b ∷ said) rest

-- In single quotes, and not closed on this row: what the row says of it.
pub data SingleOpen : List ℕ → List ℕ → Type 0 where
  -- the row's end
  at_end : SingleOpen [] []
  -- two quotes
  quote : {text said : List ℕ} → SingleOpen text said →
      SingleOpen (single_quote ∷ single_quote ∷ text) (single_quote ∷ said)
  -- any other byte
  other : {b : ℕ} {text said : List ℕ} → b ≢ single_quote → SingleOpen text said →
      SingleOpen (b ∷ text) (b ∷ said)

-- In double quotes: a backslash and one of four bytes stand for one byte.
pub data Double : List ℕ → List ℕ → List ℕ → Type 0 where
  -- the closing quote
  closing : {rest : List ℕ} → Double (double_quote ∷ rest) [] rest
  -- a backslash and what is known behind it
  escape : {b c : ℕ} {text said rest : List ℕ} → escaped b ≡ Some c → Double text said rest →
      Double (backslash ∷ b ∷ text) (c ∷ said) rest
  -- any other byte
  other : {b : ℕ} {text said rest : List ℕ} → b ≢ double_quote → b ≢ backslash →
      Double text said rest → Double (b ∷ text) (b ∷ said) rest
