use Rattle.std.proofs.Common.{◌≡◌, ◌∙◌, pos, arith}
use Rattle.jiff.proofs.SpanFacts.{signed_arith}
use Rattle.jiff_core.specs.Date.{epoch_day}
use Rattle.rb_cron.specs.Days.{in_day}
use Rattle.rb_cron.proofs.Dated.{day_back, year_is_natural, date_is, year_unsigned, year_low, weekday_unsigned}
use Rattle.rb_cron.proofs.calendar.Calendar.meets_on.Goals as goal

pub overflow_cast-date : goal.overflow_cast-date
overflow_cast-date c =
    let is : epoch_day c.in-Ok.date ≡ pos c.args.day = c.in-Ok.ensures.value ∙ day_back c.args.day c.requires in
    let year = year_is_natural c.in-Ok.date c.args.day is c.requires in
    omega (arith, signed_arith, year, c.in-Ok.date.year_in)

pub returns : goal.returns
returns c =
    let is : epoch_day c.in-Ok.date ≡ pos c.args.day = c.in-Ok.ensures.value ∙ day_back c.args.day c.requires in
    c.meets_date.ensures ∙ date_is c.args.self.now c.in-Ok.date c.args.day _ _ is c.requires
    (year_unsigned c.in-Ok.date.year (in_day c.args.day 0).year (year_is_natural c.in-Ok.date c.args.day is c.requires) (year_low c.in-Ok.date c.args.day is c.requires))
    (weekday_unsigned c.in-Ok.date c.args.day _ _ is c.requires c.weekday.ensures c.to_sunday_one_offset.ensures.value)
