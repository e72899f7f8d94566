-- Which texts are zone rules. A part of a rule is a function that passes over it at the front of a
-- text and gives what follows, or nothing where the part does not stand there.
use Rattle.std.specs.Prelude.{ℕ, Bool, true, false, not, ◌&&◌, ◌||◌, nat_eq, nat_le, List, [], ◌∷◌, length, drop, codes, bytes_eq, Option, Some, None, if◌then◌else◌}
use Rattle.std.specs.Char.{is_ascii_alphabetic, is_ascii_alphanumeric}
use Rattle.std.specs.List.{take_while}
use Rattle.std.specs.Option.{option_and_then}
use Rattle.rb_causes.specs.Numbers.{is_digit, number_of}
use Rattle.rb_causes.specs.Signs.{plus, comma, hyphen, full_stop, slash, digit_zero, colon, less_than, greater_than}

-- M, which begins a rule of month, week and day
abbrev letter_m : ℕ
letter_m = 77

abbrev pub Part : Type 0
Part = List ℕ → Option (List ℕ)

-- parts that stand one behind the other
abbrev pub all_of : List Part → Part
all_of [] text = Some text
all_of (part ∷ parts) text = option_and_then (all_of parts) (part text)

-- the text begins with such a byte
abbrev pub begins_with_sign : (ℕ → Bool) → List ℕ → Bool
begins_with_sign is [] = false
begins_with_sign is (b ∷ bs) = is b

-- one such byte
abbrev pub one : (ℕ → Bool) → Part
one is [] = None
one is (b ∷ bs) = if is b then Some bs else None

-- a part that has to stand where such a byte begins the text
abbrev pub at : (ℕ → Bool) → Part → Part
at is part text = if begins_with_sign is text then part text else Some text

-- a part that has to stand where no such byte begins the text
abbrev pub unless_at : (ℕ → Bool) → Part → Part
unless_at is part text = if begins_with_sign is text then Some text else part text

-- a part that has to stand where the text has not ended
abbrev pub unless_ended : Part → Part
unless_ended part [] = Some []
unless_ended part (b ∷ bs) = part (b ∷ bs)

-- the longest run of such bytes, if it passes a test
abbrev pub run_that : (ℕ → Bool) → (List ℕ → Bool) → Part
run_that is passes text =
    let run : List ℕ = take_while is text in
    if passes run then Some (drop (length run) text) else None

abbrev pub has_from : ℕ → ℕ → List ℕ → Bool
has_from least most bytes = nat_le least (length bytes) && nat_le (length bytes) most

-- so many digits that write a number up to the greatest
abbrev pub is_number : ℕ → ℕ → ℕ → List ℕ → Bool
is_number fewest most greatest digits =
    has_from fewest most digits && nat_le (number_of digits) greatest

-- one digit, or two without a leading zero, that write a number in a range
abbrev pub is_plain_number : ℕ → ℕ → List ℕ → Bool
is_plain_number least greatest digits =
    has_from 1 2 digits
    && (nat_eq (length digits) 1 || not (begins_with_sign (nat_eq digit_zero) digits))
    && (nat_le least (number_of digits) && nat_le (number_of digits) greatest)

-- what follows a name of so many bytes, which are 3 to 6
abbrev pub behind_zone_name : ℕ → Part
behind_zone_name len text = if nat_le 3 len && nat_le len 6 then Some (drop len text) else None

abbrev pub is_zone_name_byte : ℕ → Bool
is_zone_name_byte b = is_ascii_alphanumeric b || (nat_eq b plus || nat_eq b hyphen)

-- a name of letters, or of letters, digits, `+` and `-` between `<` and `>`: 3 to 6 of them
abbrev pub zone_name : Part
zone_name text =
    if begins_with_sign (nat_eq less_than) text
    then all_of (
    one (nat_eq less_than)
    ∷ (run_that is_zone_name_byte (has_from 3 6) ∷ (one (nat_eq greater_than) ∷ []))
    ) text
    else run_that is_ascii_alphabetic (has_from 3 6) text

-- `:` and two digits up to 59
abbrev pub sixtieth : Part
sixtieth = all_of (one (nat_eq colon) ∷ run_that is_digit (is_number 2 2 59) ∷ [])

-- one or two digits up to 24, then optionally minutes, and after these optionally seconds
abbrev pub time : Part
time = all_of (
    run_that is_digit (is_number 1 2 24)
    ∷ at (nat_eq colon) (all_of (sixtieth ∷ at (nat_eq colon) sixtieth ∷ []))
    ∷ []
    )

abbrev pub is_plus_or_dash : ℕ → Bool
is_plus_or_dash b = nat_eq b plus || nat_eq b hyphen

-- an optional sign and a time
abbrev pub offset : Part
offset = all_of (at is_plus_or_dash (one is_plus_or_dash) ∷ time ∷ [])

-- a number without leading zeros
abbrev pub plain_number : ℕ → ℕ → Part
plain_number least greatest = run_that is_digit (is_plain_number least greatest)

-- `Mm.w.d`, then optionally `/` and a time
abbrev pub change : Part
change = all_of (
    one (nat_eq letter_m)
    ∷ plain_number 1 12
    ∷ one (nat_eq full_stop)
    ∷ plain_number 1 5
    ∷ one (nat_eq full_stop)
    ∷ plain_number 0 6
    ∷ at (nat_eq slash) (all_of (one (nat_eq slash) ∷ time ∷ []))
    ∷ []
    )

-- a name, an optional offset, and when summer time begins and ends
abbrev pub summer : Part
summer = all_of (
    zone_name
    ∷ unless_at (nat_eq comma) offset
    ∷ one (nat_eq comma)
    ∷ change
    ∷ one (nat_eq comma)
    ∷ change
    ∷ []
    )

abbrev pub posix_rule : Part
posix_rule = all_of (zone_name ∷ offset ∷ unless_ended summer ∷ [])

abbrev pub ends_text : Option (List ℕ) → Bool
ends_text None = false
ends_text (Some []) = true
ends_text (Some (b ∷ bs)) = false

abbrev pub is_utc : List ℕ → Bool
is_utc text = bytes_eq text (codes "UTC")

-- the text is a zone rule
abbrev pub is_rule : List ℕ → Bool
is_rule text = is_utc text || ends_text (posix_rule text)
