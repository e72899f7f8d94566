-- Values: a plain text, or a pattern.
use Rattle.std.specs.Prelude.{ℕ, Bool, true, false, ◌||◌, nat_eq, bytes_eq, List, Result, IsOk, if◌then◌else◌}
use Rattle.std.specs.Char.{is_ascii_alphanumeric}
use Rattle.std.specs.List.{list_all}
use Rattle.rb_causes.specs.Signs.{at_sign, colon, full_stop, hyphen, underscore}
use Rattle.rb_text.specs.Matching.{matches_whole}
use Rattle.rb_text.specs.declared.value.Value.{Value}
use Rattle.rb_text.specs.declared.value.Value.TheVariants.{Plain, Pattern}

-- one of _ . : @ -
abbrev pub is_plain_sign : ℕ → Bool
is_plain_sign b =
    (nat_eq b underscore || nat_eq b full_stop)
    || (nat_eq b colon || (nat_eq b at_sign || nat_eq b hyphen))

-- the text is only letters and digits of ASCII and these signs, as the empty text is
abbrev pub is_plain : List ℕ → Bool
is_plain text = list_all (λ b. is_ascii_alphanumeric b || is_plain_sign b) text

-- what a text is read as
abbrev pub value_of : List ℕ → Value
value_of text = if is_plain text then Plain text else Pattern text

-- a value holds of a text: it is that very text, or its pattern matches the whole of it
abbrev pub value_is : Value → List ℕ → Bool
value_is (Plain text) s = bytes_eq text s
value_is (Pattern text) s = matches_whole text s

-- the text that was read
abbrev pub text_of : Value → List ℕ
text_of (Plain text) = text
text_of (Pattern text) = text

-- a value without a pattern
abbrev pub is_plain_value : Value → Bool
is_plain_value (Plain text) = true
is_plain_value (Pattern text) = false

-- a plain value takes no memory
abbrev pub TakesNone : {E : Type 0} → Value → Result Bool E → Type 0
TakesNone (Plain text) result = IsOk result
TakesNone (Pattern text) result = Unit {0}
