-- What is parsed of a text of digits.
use Rattle.std.proofs.Common.{◌≡◌, ℕ, true, ◌&&◌, nat_le, List, length, Result, arith, rules}
use Rattle.std.specs.List.{list_all}
use Rattle.std.specs.Result.{result_ok}
use Rattle.std.specs.Str.Parse.{ParsesUnsigned}
use Rattle.std.proofs.lemmas.Bool.{leb-true, and_parts}
use Rattle.std.proofs.lemmas.Str.Parse.{IsNumeralModel, numerals_by_weight, parse_gives, digits_value_short}
use Rattle.rb_causes.specs.Numbers.{is_digit, number_of, is_decimal, decimal_of}

own : IsNumeralModel (λ ds. list_all is_digit ds ≡ true) number_of
own = numerals_by_weight _ (search rules) number_of (search rules)

pub parsed : {E : Type 0} (text : List ℕ) (r : Result ℕ E) → ParsesUnsigned 64 10 text r → is_decimal text ≡ true → result_ok r ≡ decimal_of text
parsed text r parses e =
    let parts = and_parts (nat_le 1 (length text) && nat_le (length text) 18) (list_all is_digit text) e in
    let bounds = and_parts (nat_le 1 (length text)) (nat_le (length text) 18) parts.0 in
    let small = digits_value_short own text 18 parts.1 (leb-true (length text) 18 bounds.1) in
    let given = parse_gives own 64 text r parses parts.1 (leb-true 1 (length text) bounds.0) (omega (arith, small)) in
    rw (given, e)
