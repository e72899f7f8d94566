-- The key that a text begins with.
use Rattle.std.specs.Prelude.{ℕ, suc, ◌+◌, Bool, false, ◌||◌, nat_eq, List, [], ◌∷◌, take, drop, Option, Some, None, option_map, option_and_then, is_some, Result, Ok, Err, if◌then◌else◌}
use Rattle.rb_causes.specs.Causes.{unless}
use Rattle.rb_causes.specs.Signs.{double_quote, single_quote, hyphen, colon, question_mark, opening_bracket, opening_brace, vertical_bar}
use Rattle.rb_yaml.specs.declared.flaw.Flaw.{Flaw}
use Rattle.rb_yaml.specs.declared.flaw.Flaw.TheVariants.{Form}
use Rattle.rb_yaml.specs.Rows.{past_blanks, begins}
use Rattle.rb_yaml.specs.Signs.{begins_sign, begins_item, colon_at, start_flaw, without_end}
use Rattle.rb_yaml.specs.Quotes.{Quoted, single_from, double_from}

-- A key as it is read, or what is wrong with it, and the text behind its colon.
pub record KeyPart : Type 0 where
  pub key : Result (List ℕ) Flaw
  pub behind : List ℕ

-- a question mark or a hyphen that the colon follows directly is a text
abbrev pub is_lone_sign : List ℕ → Bool
is_lone_sign [] = false
is_lone_sign (b ∷ []) = nat_eq b question_mark || nat_eq b hyphen
is_lone_sign (b ∷ c ∷ bs) = false

-- a plain key: all before the colon, but for the blanks at its end
abbrev pub plain_key : List ℕ → Result (List ℕ) Flaw
plain_key front =
    if is_lone_sign front then Ok front
    else unless (start_flaw (without_end front)) (without_end front)

abbrev pub plain_key_part : List ℕ → Option KeyPart
plain_key_part text =
    option_map (λ at. record { key = plain_key (take (suc at) text); behind = drop (at + 2) text })
    (colon_at false (drop 1 text))

-- what follows a quoted key: blanks, and the sign of a key
abbrev pub behind_colon : List ℕ → Option (List ℕ)
behind_colon rest =
    if begins_sign colon (past_blanks rest) then Some (drop 1 (past_blanks rest)) else None

abbrev pub quoted_key_part : Quoted → Option KeyPart
quoted_key_part q =
    option_map (λ behind. record { key = if q.good then Ok q.text else Err Form; behind = behind })
    (option_and_then behind_colon q.rest)

-- The key that the text begins with, where a colon follows it as a sign. A bracket or a bar begins
-- no key.
abbrev pub key_part : List ℕ → Option KeyPart
key_part text =
    if begins double_quote text then quoted_key_part (double_from false (drop 1 text))
    else if begins single_quote text then quoted_key_part (single_from false (drop 1 text))
    else if (begins opening_bracket text || begins opening_brace text) || begins vertical_bar text
    then None
    else plain_key_part text

abbrev pub begins_with_key : List ℕ → Bool
begins_with_key text = is_some (key_part text)

-- the text begins a sequence or a map
abbrev pub begins_collection : List ℕ → Bool
begins_collection text = begins_item text || begins_with_key text
