use Rattle.std.proofs.Common.{◌≡◌, pos, ◌+ℤ◌, ◌*ℤ◌, arith, ap, sym, subst, ◌∙◌, refl, to_z, of_z, w16, w32, w64}
use Rattle.std.specs.Int.{int_div_euclid}
use Rattle.jiff.proofs.SpanFacts.{signed_arith}
use Rattle.jiff_core.specs.Date.{epoch_day}
use Rattle.jiff_core.specs.Calendar.{days_in_year}
use Rattle.jiff_tz.specs.PosixRule.{first_day}
use Rattle.jiff_tz.proofs.YearLemmas.{back_year}
use Rattle.jiff_core.proofs.CalendarLemmas.{days_from_civil-day_count}
use Rattle.rb_cron.specs.Pieces.{IsInYear, IsYearOf}
use Rattle.rb_cron.proofs.Edges.{in_its_year, next_first, year_bounds, year_high}
use Rattle.rb_cron.proofs.piece.year_of.Goals as goal

-- the date's day is that of the second
its_day_early : (c : goal.After-struct_told-in-Ok-1) → epoch_day c.in-Ok.date ≡ int_div_euclid c.args.second (pos 86_400)
its_day_early c =
    let value = c.in-Ok.ensures.value in
    omega (arith, signed_arith, value, c.div_euclid.ensures, c.requires)

holds_early : (c : goal.After-struct_told-in-Ok-1) → IsInYear c.in-Ok.date.year c.args.second
holds_early c = in_its_year c.in-Ok.date c.args.second (its_day_early c)

pub first_day-requires-in-Ok : goal.first_day-requires-in-Ok
first_day-requires-in-Ok c =
    let at = holds_early c in
    let bounds = year_bounds c.in-Ok.date.year c.args.second at c.requires.0 c.requires.1 in
    let count = days_from_civil-day_count c.in-Ok.date.year 1 1 in
    let low = year_high c.in-Ok.date.year c.args.second at c.requires.1 in
    omega (arith, signed_arith, c.in-Ok.date.year_in, low)

its_day : (c : goal.After-struct_told-in-Ok-2-1) → epoch_day c.in-Ok.date ≡ int_div_euclid c.args.second (pos 86_400)
its_day c =
    let value = c.in-Ok.ensures.value in
    omega (arith, signed_arith, value, c.div_euclid.ensures, c.requires)

holds : (c : goal.After-struct_told-in-Ok-2-1) → IsInYear c.in-Ok.date.year c.args.second
holds c = in_its_year c.in-Ok.date c.args.second (its_day c)

pub returns-clause-year : goal.returns-clause-year
returns-clause-year c =
    let y = c.in-Ok.date.year in
    let at = holds c in
    let back = back_year y c.in-Ok.date.year_in in
    let high = year_high y c.args.second at c.requires.1 in
    let bounds = year_bounds y c.args.second at c.requires.0 c.requires.1 in
    let more : to_z w16 (of_z w16 (to_z w16 (of_z w16 y) +ℤ pos 1)) ≡ y +ℤ pos 1 = omega (arith, signed_arith, c.in-Ok.date.year_in, high) in
    let this : c.first_day.result ≡ first_day y = c.first_day.ensures.value ∙ ap first_day back in
    let next : c.first_day-in-Ok.result ≡ first_day y +ℤ pos (days_in_year y) =
    c.first_day-in-Ok.ensures.value ∙ ap first_day more ∙ next_first y (y +ℤ pos 1) c.in-Ok.date.year_in refl in
    let b1 = c.first_day.ensures.bound in
    let b2 = c.first_day-in-Ok.ensures.bound in
    subst (λ n. IsYearOf (record {
      number = n;
      first = to_z w64 (of_z w64 (to_z w64 (of_z w64 (to_z w32 (of_z w32 c.first_day.result))) *ℤ pos 86400));
      next = to_z w64 (of_z w64 (to_z w64 (of_z w64 (to_z w32 (of_z w32 c.first_day-in-Ok.result))) *ℤ pos 86400));
    })) (sym back) (record {
      year_in = c.in-Ok.date.year_in;
      first = omega (arith, signed_arith, this, b1);
      next = omega (arith, signed_arith, next, b2);
      low = omega (arith, signed_arith, this, b1, bounds);
      high = omega (arith, signed_arith, next, b2, bounds);
    })

pub returns-clause-holds : goal.returns-clause-holds
returns-clause-holds c = subst (λ y. IsInYear y c.args.second) (sym (back_year c.in-Ok.date.year c.in-Ok.date.year_in)) (holds c)
