-- Decimal numbers in texts, and the letters and digits of ASCII.
use Rattle.std.specs.Prelude.{ℕ, zero, suc, ◌||◌, ◌+◌, ◌*◌, ◌-◌, ◌^◌, Bool, ◌&&◌, nat_le, List, [], ◌∷◌, length, Option, Some, None, if◌then◌else◌}
use Rattle.std.specs.List.{list_all}
use Rattle.rb_causes.specs.Signs.{digit_zero, digit_nine, capital_a, capital_z, small_a, small_z}

-- an ASCII digit
abbrev pub is_digit : ℕ → Bool
is_digit b = nat_le digit_zero b && nat_le b digit_nine

-- A to Z and a to z
abbrev pub is_letter : ℕ → Bool
is_letter b = (nat_le capital_a b && nat_le b capital_z) || (nat_le small_a b && nat_le b small_z)

-- so many numbers, from one on
abbrev pub numbers_from : ℕ → ℕ → List ℕ
numbers_from first zero = []
numbers_from first (suc count) = first ∷ numbers_from (first + 1) count

-- the number that digits write: each counts for the power of ten of its place
abbrev pub number_of : List ℕ → ℕ
number_of [] = 0
number_of (d ∷ ds) = (d - digit_zero) * 10 ^ length ds + number_of ds

-- 1 to 18 digits and nothing else
abbrev pub is_decimal : List ℕ → Bool
is_decimal text = (nat_le 1 (length text) && nat_le (length text) 18) && list_all is_digit text

-- the number that a text of 1 to 18 digits writes, and none for any other text
abbrev pub decimal_of : List ℕ → Option ℕ
decimal_of text = if is_decimal text then Some (number_of text) else None
