-- A decimal is a count of seconds.
use Rattle.std.proofs.Common.{◌≡◌, ◌<◌, ◌^◌, ℕ, Bool, true, false, ◌&&◌, nat_le, List, length, Some, None, refl, arith, rules}
use Rattle.std.specs.List.{list_all}
use Rattle.std.proofs.lemmas.Bool.{leb-true, and_parts}
use Rattle.std.proofs.lemmas.Str.Parse.{IsNumeralModel, numerals_by_weight, digits_value_short}
use Rattle.rb_causes.specs.Numbers.{is_digit, number_of, is_decimal, decimal_of}

weights : IsNumeralModel (λ ds. list_all is_digit ds ≡ true) number_of
weights = numerals_by_weight _ (search rules) number_of (search rules)

-- 18 digits write a number below 2^63
pub decimal_is_small : (text : List ℕ) (n : ℕ) → decimal_of text ≡ Some n → n < 2 ^ 63
decimal_is_small text n e = by_case (is_decimal text) refl
  where
    by_case : (b : Bool) → is_decimal text ≡ b → n < 2 ^ 63
    by_case false is_none = let none : None ≡ Some n = rw is_none at e in let never : ⊥ = cc in absurd never
    by_case true is_one =
        let parts = and_parts (nat_le 1 (length text) && nat_le (length text) 18) (list_all is_digit text) is_one in
        let bounds = and_parts (nat_le 1 (length text)) (nat_le (length text) 18) parts.0 in
        let is : Some (number_of text) ≡ Some n = rw is_one at e in
        let small = digits_value_short weights text 18 parts.1 (leb-true (length text) 18 bounds.1) in
        let same : number_of text ≡ n = cc in
        omega (arith, small, same)
