-- The civil times of a day, for a search that goes from day to day: nothing meets the fields
-- between `from` and a day that was passed.
use Rattle.std.proofs.Common.{◌≡◌, ℕ, ◌+◌, ◌-◌, ◌*◌, ◌%◌, ◌≤◌, ◌<◌, Bool, true, false, ◌&&◌, arith, refl, ap, sym, ◌∙◌, inl, inr}
use Rattle.std.specs.Prelude.{◌⊎◌}
use Rattle.std.proofs.lemmas.Bool.Decides.{leb_tells}
use Rattle.rb_cron.specs.Civil.{civil_of, civil_in, year_and_day}
use Rattle.rb_cron.specs.Due.{meets, time_meets, day_meets}
use Rattle.rb_cron.specs.Fields.{field_has, year}
use Rattle.rb_cron.specs.Days.{in_day, date_meets, NoneMeet, IsNextCivil, NonePass, IsFirstPass, in_day_meets}
use Rattle.rb_cron.specs.declared.fields.Fields.{Fields}

civil_parts : (k s n d : ℕ) → d ≡ k → n ≡ s → civil_in (year_and_day 230 1970 d) ((d + 4) % 7 + 1) n ≡ in_day k s
civil_parts k s n d e g = ap (λ x. civil_in (year_and_day 230 1970 x) ((x + 4) % 7 + 1) n) e ∙ ap (in_day k) g

pub civil_in_day : (k s : ℕ) → s < 86_400 → civil_of (k * 86_400 + s) ≡ in_day k s
civil_in_day k s low = civil_parts k s _ _ (omega (arith, low)) (omega (arith, low))

meets_by : (time day year : Bool) → (day && year) ≡ false → (time && day && year) ≡ false
meets_by true true true h = absurd (cc)
meets_by true true false h = refl
meets_by true false y h = refl
meets_by false true y h = refl
meets_by false false y h = refl

time_by : (time day year : Bool) → time ≡ false → (time && day && year) ≡ false
time_by true d y h = absurd (cc)
time_by false true y h = refl
time_by false false y h = refl

parts_of_day : (k c : ℕ) → k * 86_400 ≤ c → c < (k + 1) * 86_400 → (s : ℕ) × (s < 86_400) × (k * 86_400 + s ≡ c)
parts_of_day k c low high = (c - k * 86_400, omega (arith, low, high), omega (arith, low, high))

-- a day whose date does not meet the fields is passed over
pub day_passed : (f : Fields) (k : ℕ) → date_meets f k ≡ false → NoneMeet f (k * 86_400) ((k + 1) * 86_400)
day_passed f k fails c low high =
    let part = parts_of_day k c low high in
    let shown : civil_of c ≡ in_day k part.0 = ap civil_of (sym part.2) ∙ civil_in_day k part.0 part.1 in
    ap (meets f) shown ∙ meets_by (time_meets f (in_day k part.0)) (day_meets f (in_day k 0)) (field_has year f.year (in_day k 0).year) fails

-- where no time of day from one on and before another meets its fields, no civil time does
pub times_passed : (f : Fields) (k from end : ℕ) → end ≤ 86_400 → NonePass (in_day_meets f) from end → NoneMeet f (k * 86_400 + from) (k * 86_400 + end)
times_passed f k from end bound fails c low high =
    let part = parts_of_day k c (omega (arith, low)) (omega (arith, high, bound)) in
    let at = part.2 in
    let shown : civil_of c ≡ in_day k part.0 = ap civil_of (sym part.2) ∙ civil_in_day k part.0 part.1 in
    ap (meets f) shown ∙ time_by (time_meets f (in_day k part.0)) (day_meets f (in_day k 0)) (field_has year f.year (in_day k 0).year)
    (fails part.0 (omega (arith, at, low)) (omega (arith, at, high)))

-- what a search has passed grows
pub passed_on : (f : Fields) (from mid end : ℕ) → NoneMeet f from mid → NoneMeet f mid end → NoneMeet f from end
passed_on f from mid end before behind c low high = elim (leb_tells mid c) [
  | inl at ↦ behind c at.1 high
  | inr less ↦ before c low less.1
]

all_true : (time day year : Bool) → time ≡ true → (day && year) ≡ true → (time && day && year) ≡ true
all_true true true true h g = refl
all_true true true false h g = absurd (cc)
all_true true false y h g = absurd (cc)
all_true false d y h g = absurd (cc)

-- a time of day that meets its fields, on a date that does
pub met_on : (f : Fields) (k s : ℕ) → s < 86_400 → date_meets f k ≡ true → in_day_meets f s ≡ true → meets f (civil_of (k * 86_400 + s)) ≡ true
met_on f k s low date time = ap (meets f) (civil_in_day k s low)
    ∙ all_true (time_meets f (in_day k s)) (day_meets f (in_day k 0)) (field_has year f.year (in_day k 0).year) time date

pub none_before_end : (f : Fields) (from end past : ℕ) → end ≤ past → NoneMeet f from past → NoneMeet f from end
none_before_end f from end past less none c low high = none c low (omega (arith, high, less))

-- the least civil time of a day that was reached
pub day_found : (f : Fields) (from end k start s : ℕ) → NoneMeet f from (k * 86_400 + start) → from ≤ k * 86_400 + start → date_meets f k ≡ true
    → IsFirstPass (in_day_meets f) start 86_400 s → k * 86_400 + s < end → IsNextCivil f from end (k * 86_400 + s)
day_found f from end k start s passed up date first below =
    let later = first.later in
    let bound = first.before in
    record {
      met = met_on f k s bound date first.met;
      later = omega (arith, up, later);
      before = below;
      least = passed_on f from (k * 86_400 + start) (k * 86_400 + s) passed (times_passed f k start s (omega (arith, bound)) first.least);
    }

-- nothing before its end, where that comes earlier
pub day_too_late : (f : Fields) (from end k start s : ℕ) → NoneMeet f from (k * 86_400 + start)
    → IsFirstPass (in_day_meets f) start 86_400 s → end ≤ k * 86_400 + s → NoneMeet f from end
day_too_late f from end k start s passed first late =
    let bound = first.before in
    none_before_end f from end (k * 86_400 + s) late
    (passed_on f from (k * 86_400 + start) (k * 86_400 + s) passed (times_passed f k start s (omega (arith, bound)) first.least))

-- a day is passed
pub day_over : (f : Fields) (from k start : ℕ) → NoneMeet f from (k * 86_400 + start) → (date_meets f k ≡ false) ⊎ NonePass (in_day_meets f) start 86_400
    → NoneMeet f from ((k + 1) * 86_400 + 0)
day_over f from k start passed why =
    let rest : NoneMeet f (k * 86_400 + start) ((k + 1) * 86_400 + 0) = elim why [
      | inl other ↦ λ c low high. day_passed f k other c (omega (arith, low)) (omega (arith, high))
      | inr none ↦ λ c low high. times_passed f k start 86_400 (omega arith) none c low (omega (arith, high))
    ] in
    passed_on f from (k * 86_400 + start) ((k + 1) * 86_400 + 0) passed rest
