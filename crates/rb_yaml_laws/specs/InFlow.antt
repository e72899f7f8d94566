-- Flow sequences and maps on one row, from behind the opening sign on.
use Rattle.std.specs.Prelude.{◌≡◌, ◌⊎◌, ℕ, Bool, true, false, ◌||◌, None, List, [], ◌∷◌, drop, length}
use Rattle.rb_causes.specs.Signs.{closing_brace, closing_bracket, colon, comma, double_quote, opening_brace, opening_bracket, single_quote}
use Rattle.rb_yaml.specs.Rows.{past_blanks, begins}
use Rattle.rb_yaml.specs.Signs.{is_nothing, ends_sign, excluded_start}
use Rattle.rb_yaml.specs.Keys.{is_lone_sign}
use Rattle.rb_yaml.specs.FlowScalars.{flow_word, plain_is_good}
use Rattle.rb_yaml_laws.specs.Quotes.{Single, Double}

-- neither the end, a comment, a comma or the closing sign stands here, nor a quote or an opening
-- sign
abbrev pub BeginsWord : ℕ → List ℕ → Type 0
BeginsWord close text =
    (is_nothing text ≡ false) × (begins comma text ≡ false) × (begins close text ≡ false)
    × ((begins opening_bracket text || begins opening_brace text) ≡ false)
    × (begins double_quote text ≡ false) × (begins single_quote text ≡ false)

-- a plain scalar has this text, with that behind it. As a key, a question mark or a hyphen that the
-- colon follows directly is one
abbrev pub IsWord : Bool → List ℕ → List ℕ → Type 0
IsWord key word rest =
    ((key ≡ true) × (is_lone_sign word ≡ true) × (begins colon rest ≡ true))
    ⊎ ((excluded_start word ≡ None) × (plain_is_good word ≡ true))

-- A scalar in a flow: what it says, and what stands behind it.
pub data FlowScalar (key : Bool) (close : ℕ) : List ℕ → List ℕ → List ℕ → Type 0 where
  -- in single quotes
  single : {text said rest : List ℕ} → Single text said rest →
      FlowScalar key close (single_quote ∷ text) said rest
  -- in double quotes
  double : {text said rest : List ℕ} → Double text said rest →
      FlowScalar key close (double_quote ∷ text) said rest
  -- a plain one, up to a comma, the closing sign, a comment or, as a key, its colon
  plain : {text word rest : List ℕ} → BeginsWord close text → word ≡ flow_word key close text →
      rest ≡ drop (length word) text →
      IsWord key word rest → FlowScalar key close text word rest

-- a key's colon: a blank or the end follows it, unless the key stands in quotes
abbrev pub IsColon : List ℕ → List ℕ → Type 0
IsColon key behind =
    (ends_sign behind ≡ true) ⊎ ((begins double_quote key || begins single_quote key) ≡ true)

-- An item of a flow, as its key and what it says, and what stands behind it. In a sequence an item
-- has no key, in a map it has one.
pub data IsFlowItem : ℕ → List ℕ → List ℕ → List ℕ → List ℕ → Type 0 where
  -- between square brackets: a scalar
  in_sequence : {text said rest : List ℕ} → FlowScalar false closing_bracket text said rest →
      IsFlowItem closing_bracket text [] said rest
  -- between braces: a key, its colon and a scalar
  in_map : {text key left behind said rest : List ℕ} →
      FlowScalar true closing_brace text key left → past_blanks left ≡ colon ∷ behind →
      IsColon text behind → FlowScalar false closing_brace (past_blanks behind) said rest →
      IsFlowItem closing_brace text key said rest

-- What stands up to the closing sign: items parted by commas, one comma at the end allowed, with
-- blanks around them.
pub data InFlow (close : ℕ) : List ℕ → List (List ℕ × List ℕ) → List ℕ → Type 0 where
  -- nothing more: the closing sign
  closes : {text rest : List ℕ} → past_blanks text ≡ close ∷ rest → InFlow close text [] rest
  -- one item, and the closing sign
  last : {text key said behind rest : List ℕ} →
      IsFlowItem close (past_blanks text) key said behind → past_blanks behind ≡ close ∷ rest →
      InFlow close text ((key, said) ∷ []) rest
  -- one item, a comma, and what stands behind that
  more : {text key said behind next rest : List ℕ} {items : List (List ℕ × List ℕ)} →
      IsFlowItem close (past_blanks text) key said behind →
      past_blanks behind ≡ comma ∷ next → InFlow close next items rest →
      InFlow close text ((key, said) ∷ items) rest
