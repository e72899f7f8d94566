-- The sum of the numbers in braces, as one walk over the bytes counts it.
use Rattle.std.proofs.Common.{◌≡◌, ◌≤◌, ◌<◌, ℕ, ◌+◌, ◌*◌, ◌-◌, ◌^◌, Bool, true, false, not, cond, List, [], ◌∷◌, map, length, get_or, drop, nat_eq, nat_le, refl, sym, ap, ap₂, subst, inl, inr, ◌∙◌, arith}
use Rattle.std.specs.List.{fold, flat_map, sum_by}
use Rattle.std.proofs.lemmas.Bool.{cases_Bool, eqb-true, false_from_ne_true, lt-leb}
use Rattle.std.proofs.lemmas.List.Sums.{sum_by-append, sum_by-cons}
use Rattle.std.proofs.lemmas.List.{at_drop_more}
use Rattle.std.proofs.Math.Nat.{pow-succ'}
use Rattle.rb_causes.specs.Numbers.{is_digit, number_of}
use Rattle.rb_causes.specs.Signs.{closing_brace, digit_zero, opening_brace}
use Rattle.rb_causes.specs.Texts.{pieces, onto_first}
use Rattle.rb_text.specs.Light.{behind_brace, digit_runs, brace_total}

-- outside or inside of braces, with the value of the run so far
abbrev pub counted : Bool → ℕ → List ℕ → ℕ
counted inside n [] = n
counted false n (b ∷ bs) = counted (nat_eq b opening_brace) n bs
counted true n (b ∷ bs) = cond (is_digit b) (counted true (10 * n + (b - digit_zero)) bs)
    (n + counted (not (nat_eq b closing_brace)) 0 bs)

abbrev value_from : ℕ → List ℕ → ℕ
value_from n digits = fold (λ m b. 10 * m + (b - digit_zero)) n digits

abbrev first : List (List ℕ) → List ℕ
first [] = []
first (x ∷ xs) = x

abbrev rest : List (List ℕ) → List (List ℕ)
rest [] = []
rest (x ∷ xs) = xs

-- the sum of these runs, and of those of all these parts
abbrev sum_of : List (List ℕ) → ℕ
sum_of runs = sum_by number_of runs

abbrev total_of : List (List ℕ) → ℕ
total_of parts = sum_of (flat_map digit_runs (map behind_brace parts))

abbrev parts_of : List ℕ → List (List ℕ)
parts_of text = pieces (λ b. nat_eq b closing_brace) text

-- the sum of the runs, where n is the value of what stands before the first
abbrev runs_from : ℕ → List ℕ → ℕ
runs_from n text = value_from n (first (digit_runs text)) + sum_of (rest (digit_runs text))

sum_of-cons : (x : List ℕ) (xs : List (List ℕ)) → sum_of (x ∷ xs) ≡ number_of x + sum_of xs
sum_of-cons x xs = sum_by-cons number_of x xs

total_of-cons : (p : List ℕ) (ps : List (List ℕ)) → total_of (p ∷ ps)
    ≡ sum_of (digit_runs (behind_brace p)) + total_of ps
total_of-cons p ps = sum_by-append number_of (digit_runs (behind_brace p))
    (flat_map digit_runs (map behind_brace ps))

-- digits read from the left give the number that they write
read_on : (n : ℕ) (digits : List ℕ) → value_from n digits
    ≡ n * 10 ^ length digits + number_of digits
read_on n [] = omega arith
read_on n (d ∷ ds) =
    let p = 10 ^ length ds in
    let v = d - digit_zero in
    let step : (10 * n + v) * p + number_of ds ≡ n * (10 * p) + (v * p + number_of ds) =
    omega arith in
    read_on (10 * n + v) ds ∙ step
    ∙ ap (λ q. n * q + (v * p + number_of ds)) (sym (pow-succ' 10 (length ds)))

-- a list of runs by its first one
sum_of_first : (runs : List (List ℕ)) → sum_of runs ≡ value_from 0 (first runs) + sum_of (rest runs)
sum_of_first [] = refl
sum_of_first (x ∷ xs) = sum_of-cons x xs ∙ ap (λ n. n + sum_of xs) (omega (arith, read_on 0 x))

first_onto : (b : ℕ) (xs : List (List ℕ)) → first (onto_first b xs) ≡ b ∷ first xs
first_onto b [] = refl
first_onto b (x ∷ xs) = refl

rest_onto : (b : ℕ) (xs : List (List ℕ)) → rest (onto_first b xs) ≡ rest xs
rest_onto b [] = refl
rest_onto b (x ∷ xs) = refl

onto_split : (b : ℕ) (xs : List (List ℕ)) → onto_first b xs ≡ (b ∷ first xs) ∷ rest xs
onto_split b [] = refl
onto_split b (x ∷ xs) = refl

-- what is parted has a first piece
pieces_split : (test : ℕ → Bool) (bs : List ℕ) → pieces test bs ≡ first (pieces test bs)
    ∷ rest (pieces test bs)
pieces_split test [] = refl
pieces_split test (b ∷ bs) = elim
    (cases_Bool (test b)) [
      | inl e ↦ rw e
      | inr e ↦ rw e
          (onto_split b (pieces test bs)
          ∙ ap₂ (λ x xs. x ∷ xs) (sym (first_onto b (pieces test bs)))
          (sym (rest_onto b (pieces test bs))))
    ]

abbrev IsOutside : List ℕ → Type 0
IsOutside bs = counted false 0 bs ≡ total_of (parts_of bs)

abbrev IsInside : List ℕ → Type 0
IsInside bs = (n : ℕ) → counted true n bs
    ≡ runs_from n (first (parts_of bs)) + total_of (rest (parts_of bs))

parts_at_close : (b : ℕ) (bs : List ℕ) → nat_eq b closing_brace ≡ true → parts_of (b ∷ bs) ≡ []
    ∷ parts_of bs
parts_at_close b bs e = rw e

parts_at_other : (b : ℕ) (bs : List ℕ) → nat_eq b closing_brace ≡ false → parts_of (b ∷ bs)
    ≡ (b ∷ first (parts_of bs)) ∷ rest (parts_of bs)
parts_at_other b bs e = rw e (onto_split b (parts_of bs))

behind_open : (b : ℕ) (p : List ℕ) → nat_eq b opening_brace ≡ true → behind_brace (b ∷ p) ≡ p
behind_open b p e = rw e

behind_other : (b : ℕ) (p : List ℕ) → nat_eq b opening_brace ≡ false → behind_brace (b ∷ p)
    ≡ behind_brace p
behind_other b p e = rw e

runs_at_digit : (b : ℕ) (p : List ℕ) → is_digit b ≡ true → digit_runs (b ∷ p)
    ≡ (b ∷ first (digit_runs p)) ∷ rest (digit_runs p)
runs_at_digit b p e = rw e (onto_split b (digit_runs p))

runs_at_other : (b : ℕ) (p : List ℕ) → is_digit b ≡ false → digit_runs (b ∷ p) ≡ [] ∷ digit_runs p
runs_at_other b p e = rw e

-- one byte more, outside
outside_opens : (b : ℕ) (bs : List ℕ) → nat_eq b opening_brace ≡ true → nat_eq b closing_brace
    ≡ false → IsInside bs
    → IsOutside (b ∷ bs)
outside_opens b bs opens other inside =
    let p = first (parts_of bs) in
    let ps = rest (parts_of bs) in
    ap (λ t. counted t 0 bs) opens ∙ inside 0
    ∙ ap (λ n. n + total_of ps) (sym (sum_of_first (digit_runs p)))
    ∙ ap (λ q. sum_of (digit_runs q) + total_of ps) (sym (behind_open b p opens))
    ∙ sym (total_of-cons (b ∷ p) ps)
    ∙ ap total_of (sym (parts_at_other b bs other))

outside_closes : (b : ℕ) (bs : List ℕ) → nat_eq b opening_brace ≡ false → nat_eq b closing_brace
    ≡ true → IsOutside bs
    → IsOutside (b ∷ bs)
outside_closes b bs other closes outside =
    ap (λ t. counted t 0 bs) other ∙ outside ∙ omega arith ∙ sym (total_of-cons [] (parts_of bs))
    ∙ ap total_of (sym (parts_at_close b bs closes))

outside_stays : (b : ℕ) (bs : List ℕ) → nat_eq b opening_brace ≡ false → nat_eq b closing_brace
    ≡ false → IsOutside bs
    → IsOutside (b ∷ bs)
outside_stays b bs other same outside =
    let p = first (parts_of bs) in
    let ps = rest (parts_of bs) in
    ap (λ t. counted t 0 bs) other ∙ outside
    ∙ ap total_of (pieces_split (λ x. nat_eq x closing_brace) bs)
    ∙ total_of-cons p ps
    ∙ ap (λ q. sum_of (digit_runs q) + total_of ps) (sym (behind_other b p other))
    ∙ sym (total_of-cons (b ∷ p) ps)
    ∙ ap total_of (sym (parts_at_other b bs same))

-- and inside
inside_digit : (b : ℕ) (bs : List ℕ) → is_digit b ≡ true → nat_eq b closing_brace ≡ false
    → IsInside bs
    → IsInside (b ∷ bs)
inside_digit b bs digit same inside n =
    let p = first (parts_of bs) in
    let ps = rest (parts_of bs) in
    ap (λ t. cond t (counted true (10 * n + (b - digit_zero)) bs)
    (n + counted (not (nat_eq b closing_brace)) 0 bs))
    digit ∙ inside (10 * n + (b - digit_zero))
    ∙ ap (λ runs. value_from n (first runs) + sum_of (rest runs) + total_of ps)
    (sym (runs_at_digit b p digit))
    ∙ ap (λ parts. runs_from n (first parts) + total_of (rest parts))
    (sym (parts_at_other b bs same))

inside_closes : (b : ℕ) (bs : List ℕ) → is_digit b ≡ false → nat_eq b closing_brace ≡ true
    → IsOutside bs
    → IsInside (b ∷ bs)
inside_closes b bs other closes outside n =
    ap (λ t. cond t (counted true (10 * n + (b - digit_zero)) bs)
    (n + counted (not (nat_eq b closing_brace)) 0 bs))
    other
    ∙ ap (λ t. n + counted (not t) 0 bs) closes ∙ ap (λ m. n + m) outside ∙ omega arith
    ∙ ap (λ parts. runs_from n (first parts) + total_of (rest parts))
    (sym (parts_at_close b bs closes))

inside_other : (b : ℕ) (bs : List ℕ) → is_digit b ≡ false → nat_eq b closing_brace ≡ false
    → IsInside bs
    → IsInside (b ∷ bs)
inside_other b bs other same inside n =
    let p = first (parts_of bs) in
    let ps = rest (parts_of bs) in
    let regroup : n + (runs_from 0 p + total_of ps)
    ≡ value_from n [] + sum_of (digit_runs p) + total_of ps =
    omega (arith, sum_of_first (digit_runs p)) in
    ap (λ t. cond t (counted true (10 * n + (b - digit_zero)) bs)
    (n + counted (not (nat_eq b closing_brace)) 0 bs))
    other
    ∙ ap (λ t. n + counted (not t) 0 bs) same ∙ ap (λ m. n + m) (inside 0) ∙ regroup
    ∙ ap (λ runs. value_from n (first runs) + sum_of (rest runs) + total_of ps)
    (sym (runs_at_other b p other))
    ∙ ap (λ parts. runs_from n (first parts) + total_of (rest parts))
    (sym (parts_at_other b bs same))

not_closing : (b : ℕ) → nat_eq b opening_brace ≡ true → nat_eq b closing_brace ≡ false
not_closing b e = rw (eqb-true b opening_brace e) refl

digit_not_closing : (b : ℕ) → is_digit b ≡ true → nat_eq b closing_brace ≡ false
digit_not_closing b e =
    false_from_ne_true _
    (λ f. let never : false ≡ true = subst (λ x. is_digit x ≡ true)
    (eqb-true b closing_brace f) e in cc)

both : (bs : List ℕ) → IsOutside bs × IsInside bs
both [] = (refl, λ n. omega arith)
both (b ∷ bs) =
    let h = both bs in (
      elim (cases_Bool (nat_eq b opening_brace)) [
        | inl opens ↦ outside_opens b bs opens (not_closing b opens) h.1
        | inr other ↦ elim (cases_Bool (nat_eq b closing_brace)) [
          | inl closes ↦ outside_closes b bs other closes h.0
          | inr same ↦ outside_stays b bs
              other same h.0
        ]
      ],
      elim (cases_Bool (is_digit b)) [
        | inl digit ↦ inside_digit b bs digit (digit_not_closing b digit) h.1
        | inr other ↦ elim (cases_Bool (nat_eq b closing_brace)) [
          | inl closes ↦ inside_closes b bs other closes h.0
          | inr same ↦ inside_other b bs other
              same h.1
        ]
      ],
    )

-- the walk counts all numbers in braces
pub counts : (text : List ℕ) → counted false 0 text ≡ brace_total text
counts text = (both text).0

-- what has been counted is not taken back
pub at_least : (inside : Bool) (n : ℕ) (bs : List ℕ) → n ≤ counted inside n bs
at_least inside n [] = omega arith
at_least false n (b ∷ bs) = at_least (nat_eq b opening_brace) n bs
at_least true n (b ∷ bs) = digit_or (is_digit b) n (counted true (10 * n + (b - digit_zero)) bs)
    (counted (not (nat_eq b closing_brace)) 0 bs)
    (omega (arith, at_least true (10 * n + (b - digit_zero)) bs))
  where
    digit_or : (t : Bool) (n more other : ℕ) → n ≤ more → n ≤ cond t more (n + other)
    digit_or true n more other h = h
    digit_or false n more other h = omega arith

-- a run that has grown over what is left of 100
pub too_many : (text : List ℕ) (i total n whole : ℕ) → i < length text → is_digit (get_or text i 0)
    ≡ true →
    total + counted true n (drop i text) ≡ whole
    → 100 < total + (10 * n + (get_or text i 0 - digit_zero))
    → false ≡ nat_le whole 100
too_many text i total n whole below digit sums over =
    let b = get_or text i 0 in
    let m = 10 * n + (b - digit_zero) in
    let step : counted true n (drop i text) ≡ counted true m (drop (i + 1) text) =
    at_drop_more (counted true n) text i 0 below
    ∙ ap (λ t. cond t (counted true m (drop (i + 1) text))
    (n + counted (not (nat_eq b closing_brace)) 0 (drop (i + 1) text))) digit in
    let big : 100 < whole = omega (arith, step, sums, over, at_least true m (drop (i + 1) text)) in
    sym (lt-leb whole 100 big)
