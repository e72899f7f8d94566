-- Scalars of a flow.
use Rattle.std.specs.Prelude.{ℕ, suc, Bool, true, false, not, ◌||◌, ◌&&◌, nat_eq, List, [], ◌∷◌, take, drop, length, Option, Some, None, Result, Ok, Err, if◌then◌else◌}
use Rattle.std.specs.List.{list_any}
use Rattle.rb_causes.specs.Causes.{unless}
use Rattle.rb_causes.specs.Signs.{double_quote, hash, single_quote, comma, colon, opening_bracket, closing_bracket, opening_brace, vertical_bar, closing_brace}
use Rattle.rb_causes.specs.Texts.{is_blank}
use Rattle.rb_yaml.specs.declared.flaw.Excluded.{Excluded}
use Rattle.rb_yaml.specs.declared.flaw.Excluded.TheVariants.{NestedFlow, MultiLineFlow, MultiLineDoubleQuote}
use Rattle.rb_yaml.specs.declared.flaw.Flaw.{Flaw}
use Rattle.rb_yaml.specs.declared.flaw.Flaw.TheVariants.{OutOfProfile}
use Rattle.rb_yaml.specs.Rows.{begins}
use Rattle.rb_yaml.specs.Signs.{begins_sign, has_colon, excluded_start, is_ill_start, without_end}
use Rattle.rb_yaml.specs.Quotes.{Quoted, single_from, double_from}
use Rattle.rb_yaml.specs.Keys.{is_lone_sign}

-- A scalar of a flow: its text, whether it has a form, and what follows it.
pub record FlowText : Type 0 where
  pub text : List ℕ
  pub good : Bool
  pub rest : List ℕ

-- A plain scalar ends before this text: at a comma, the closing sign, a comment, or, for a key, its
-- colon. Does a blank stand before the text?
abbrev pub ends_plain : Bool → ℕ → Bool → List ℕ → Bool
ends_plain key close blank text =
    ((begins comma text || begins close text) || (blank && begins hash text))
    || (key && begins_sign colon text)

-- how many bytes stand before the end of a plain scalar
abbrev pub plain_len : Bool → ℕ → Bool → List ℕ → ℕ
plain_len key close blank [] = 0
plain_len key close blank (b ∷ bs) =
    if ends_plain key close blank (b ∷ bs) then 0 else suc (plain_len key close (is_blank b) bs)

-- the same where the first byte is the scalar's, whatever it is
abbrev pub word_len : Bool → ℕ → List ℕ → ℕ
word_len key close [] = 0
word_len key close (b ∷ bs) = suc (plain_len key close (is_blank b) bs)

-- the text of a plain scalar, without the blanks at its end
abbrev pub flow_word : Bool → ℕ → List ℕ → List ℕ
flow_word key close text = without_end (take (word_len key close text) text)

abbrev pub is_bracket : ℕ → Bool
is_bracket b =
    (nat_eq b opening_bracket || nat_eq b closing_bracket)
    || (nat_eq b opening_brace || nat_eq b closing_brace)

abbrev pub plain_is_good : List ℕ → Bool
plain_is_good text =
    not (is_ill_start text) && not (begins hash text || begins vertical_bar text)
    && not (list_any is_bracket text || has_colon text)

abbrev pub plain_flow : List ℕ → List ℕ → Result FlowText Flaw
plain_flow word rest =
    unless (excluded_start word)
    (record { text = word; good = plain_is_good word; rest = rest })

abbrev pub quoted_flow : Excluded → Quoted → Result FlowText Flaw
quoted_flow excluded q = behind_quote excluded q.text q.good q.rest
  where
    behind_quote : Excluded → List ℕ → Bool → Option (List ℕ) → Result FlowText Flaw
    behind_quote excluded text good None = Err (OutOfProfile excluded)
    behind_quote excluded text good (Some rest) =
        Ok (record { text = text; good = good; rest = rest })

-- A plain scalar with this word. A key's may be a lone sign that the colon follows directly.
abbrev pub word_flow : Bool → List ℕ → List ℕ → Result FlowText Flaw
word_flow key word rest =
    if key && is_lone_sign word && begins colon rest
    then Ok (record { text = word; good = true; rest = rest })
    else plain_flow word rest

-- A scalar at the beginning of the text. A key's plain text ends at its colon.
abbrev pub flow_scalar : Bool → ℕ → List ℕ → Result FlowText Flaw
flow_scalar key close text =
    if begins opening_bracket text || begins opening_brace text then Err (OutOfProfile NestedFlow)
    else if begins double_quote text
    then quoted_flow MultiLineDoubleQuote (double_from false (drop 1 text))
    else if begins single_quote text
    then quoted_flow MultiLineFlow (single_from false (drop 1 text))
    else word_flow key (flow_word key close text) (drop (length (flow_word key close text)) text)
