-- Numbers that are read again.
use Rattle.std.proofs.Common.{◌≡◌, ◌∙◌, ◌<◌, ◌≤◌, ◌^◌, ℕ, true, cond, ◌&&◌, nat_le, length, decimal, Some, None, ap, arith, rules}
use Rattle.std.specs.List.{list_all}
use Rattle.std.proofs.lemmas.Bool.{and_from, and_parts, leb-true}
use Rattle.std.proofs.lemmas.Bool.Decides.{nat_tests}
use Rattle.std.proofs.lemmas.Fmt.{digits_decimal, digits_value-decimal, decimal_nonempty, length-decimal-le}
use Rattle.std.proofs.lemmas.Str.Parse.{IsNumeralModel, numerals_by_weight}
use Rattle.rb_causes.specs.Numbers.{is_digit, number_of, decimal_of}
use Rattle.rb_job.specs.Sound.{is_between}
use Rattle.rb_job.specs.TextForms.{within, number_within}

own : IsNumeralModel (λ ds. list_all is_digit ds ≡ true) number_of
own = numerals_by_weight _ (search rules) number_of (search rules)

le_true : (a b : ℕ) → a ≤ b → nat_le a b ≡ true
le_true a b h = grind (arith, nat_tests)

fits : (n : ℕ) → n ≤ 1000000 → n < 2 ^ 64
fits n h = omega (arith, h)

lengths : (n : ℕ) → n ≤ 1000000
    → (nat_le 1 (length (decimal n)) && nat_le (length (decimal n)) 18) ≡ true
lengths n h =
    let some = decimal_nonempty n (fits n h) in
    let most : length (decimal n) ≤ 7 =
    length-decimal-le 7 n (omega arith) (omega (arith, h)) (fits n h) in
    and_from (nat_le 1 (length (decimal n))) (nat_le (length (decimal n)) 18)
    (le_true 1 (length (decimal n)) (omega (arith, some)))
    (le_true (length (decimal n)) 18 (omega (arith, most)))

pub decimal_back : (n : ℕ) → n ≤ 1000000 → decimal_of (decimal n) ≡ Some n
decimal_back n h =
    ap (λ b. cond b (Some (number_of (decimal n))) None)
    (and_from (nat_le 1 (length (decimal n)) && nat_le (length (decimal n)) 18)
    (list_all is_digit (decimal n)) (lengths n h) (digits_decimal own n (fits n h)))
    ∙ ap Some (digits_value-decimal own n (fits n h))

-- a number of a range is read again
pub number_back : (least most n : ℕ) → is_between least most n ≡ true → most ≤ 1000000
    → number_within least most (decimal n) ≡ Some n
number_back least most n h small =
    let parts = and_parts (nat_le least n) (nat_le n most) h in
    ap (within least most) (decimal_back n (omega (arith, small, leb-true n most parts.1)))
    ∙ ap (λ b. cond b (Some n) None) h
