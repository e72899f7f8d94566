-- The date of a day by its number, and what lies behind 2199.
use Rattle.std.proofs.Common.{◌≡◌, ℕ, ◌+◌, ◌*◌, ◌/◌, ◌%◌, ◌≤◌, ◌<◌, ℤ, pos, ◌<ℤ◌, arith, refl, ap, sym, subst, ◌∙◌, inl, inr, to_z, of_z, w8, w16, w64}
use lib.IntN.{nat_abs}
use Rattle.std.proofs.lemmas.Bool.{false_from_ne_true}
use Rattle.jiff.proofs.SpanFacts.{signed_arith}
use Rattle.jiff_core.specs.Calendar.{IsCivilDate, day_count, days_of_years, days_of_months}
use Rattle.jiff_core.specs.Date.{epoch_day, weekday_of}
use Rattle.jiff_core.specs.DateTime.{civil_nanos}
use Rattle.jiff_core.specs.Timestamp.{nanos_of_seconds}
use Rattle.jiff_core.specs.declared.civil.date.Date.{Date}
use Rattle.jiff_core.specs.declared.civil.datetime.DateTime.{DateTime}
use Rattle.jiff_core.proofs.CalendarLemmas.{day_count-epoch, day_count-lt_year, days_from_civil-day_count}
use Rattle.jiff_core.proofs.DateLemmas.{civil}
use Rattle.jiff_core.proofs.DateTimeLemmas.{civil_nanos-parts}
use Rattle.jiff_core.proofs.SignedLemmas.{signed_casts}
use Rattle.rb_cron.specs.Civil.{civil_of}
use Rattle.rb_cron.specs.Days.{in_day, NoneMeet, meets_date, date_meets}
use Rattle.rb_cron.specs.Due.{meets}
use Rattle.rb_cron.specs.declared.fields.Fields.{Fields}
use Rattle.rb_cron.proofs.Dates.{IsShown, civil_is}
use Rattle.rb_cron.proofs.Days.{civil_in_day}
use Rattle.rb_cron.proofs.Given.{year_bound}
use Rattle.rb_cron.proofs.Least.{order_of}
use Rattle.rb_cron.proofs.Stretches.{years_past}

last_day : day_count (pos 2200) 1 1 ≡ 4_455_959
unfolding day_count days_of_years days_of_months
last_day = refl

last_of_2199 : day_count (pos 2199) 12 31 ≡ 4_455_958
unfolding day_count days_of_years days_of_months
last_of_2199 = refl

last_date : IsCivilDate (pos 2199) 12 31
last_date = ((omega (arith, signed_arith), omega (arith, signed_arith)), (omega arith, omega arith), (omega arith, omega arith))

abbrev pub midnight : Date → DateTime
midnight d = record {
  date = d;
  time = record {
    hour = 0;
    minute = 0;
    second = 0;
    subsec_nanosecond = 0;
    hour_in = omega arith;
    minute_in = omega arith;
    second_in = omega arith;
    subsec_in = omega arith;
  };
}

before_2200 : (d : Date) (k : ℕ) → epoch_day d ≡ pos k → k < 84_006 → d.year <ℤ pos 2200
before_2200 d k is low = elim (order_of (pos 2200) d.year) [
  | inr less ↦ less
  | inl late ↦
      let after = day_count-lt_year (pos 2199) 12 31 d.year d.month d.day last_date (civil d).2.0 (omega (arith, signed_arith, late)) in
      let here = days_from_civil-day_count d.year d.month d.day in
      absurd (omega (arith, signed_arith, after, last_of_2199, here, is, low))
]

-- the date of a day is that which the definition gives it
pub date_shown : (d : Date) (k : ℕ) → epoch_day d ≡ pos k → k < 84_006 → IsShown (midnight d) (in_day k 0)
date_shown d k is low =
    let parts = civil_nanos-parts (midnight d) in
    let at : civil_nanos (midnight d) ≡ nanos_of_seconds (pos (k * 86_400 + 0)) = omega (arith, signed_arith, parts, is) in
    subst (IsShown (midnight d)) (civil_in_day k 0 (omega arith)) (civil_is (midnight d) (k * 86_400 + 0) at (before_2200 d k is low))

-- no civil time behind 2199 meets the fields
pub none_behind : (f : Fields) (from end : ℕ) → 84_006 * 86_400 ≤ from → NoneMeet f from end
none_behind f from end late c low high = false_from_ne_true (meets f (civil_of c)) (λ met.
    let bound = year_bound f (civil_of c) met in
    let past = years_past 230 1970 (c / 86_400) (omega (arith, last_day, day_count-epoch, late, low)) in
    omega (arith, bound, past))

-- the parts of a date meet the fields as its day does
pub date_is : (f : Fields) (d : Date) (k y w : ℕ) → epoch_day d ≡ pos k → k < 84_006 → y ≡ (in_day k 0).year → w ≡ (in_day k 0).weekday
    → meets_date f y d.month d.day w ≡ date_meets f k
date_is f d k y w is low year weekday =
    let s = date_shown d k is low in
    ap (λ n. meets_date f n d.month d.day w) year ∙ ap (λ n. meets_date f (in_day k 0).year n d.day w) (sym s.month)
    ∙ ap (λ n. meets_date f (in_day k 0).year (in_day k 0).month n w) (sym s.day) ∙ ap (meets_date f (in_day k 0).year (in_day k 0).month (in_day k 0).day) weekday

pub year_is_natural : (d : Date) (k : ℕ) → epoch_day d ≡ pos k → k < 84_006 → pos (in_day k 0).year ≡ d.year
year_is_natural d k is low = (date_shown d k is low).year

pub day_back : (k : ℕ) → k < 84_006 → to_z w64 k ≡ pos k
day_back k low = omega (arith, signed_casts, low)

pub year_unsigned : (y : ℤ) (k : ℕ) → pos k ≡ y → k < 2200 → nat_abs (to_z w16 (of_z w16 y)) ≡ k
year_unsigned y k is low = let e : to_z w16 (of_z w16 y) ≡ y = omega (arith, signed_arith, is, low) in ap nat_abs (e ∙ sym is)

pub year_low : (d : Date) (k : ℕ) → epoch_day d ≡ pos k → k < 84_006 → (in_day k 0).year < 2200
year_low d k is low =
    let year = year_is_natural d k is low in let bound = before_2200 d k is low in
    omega (arith, signed_arith, year, bound)

-- the weekday that the code reads is that of the day
pub weekday_unsigned : (d : Date) (k m : ℕ) (r : ℤ) → epoch_day d ≡ pos k → k < 84_006 → m ≡ weekday_of d → r ≡ pos ((m + 1) % 7 + 1)
    → nat_abs (to_z w8 (of_z w8 r)) ≡ (in_day k 0).weekday
weekday_unsigned d k m r is low monday at =
    let s = date_shown d k is low in
    let weekday = s.weekday in
    let e : to_z w8 (of_z w8 r) ≡ pos ((m + 1) % 7 + 1) = omega (arith, signed_arith, at) in
    ap nat_abs e ∙ ap (λ n. (n + 1) % 7 + 1) monday ∙ sym weekday
