use Rattle.std.proofs.Common.{◌∙◌, sym}
use Rattle.rb_cron.specs.Days.{in_hour_meets, in_day_meets}
use Rattle.rb_cron.specs.Fields.{field_has, hour}
use Rattle.rb_cron.proofs.Times.{here_3600, here_none_3600, if_none, by_hours}
use Rattle.rb_cron.proofs.calendar.Calendar.next_in_same_hour.Goals as goal

pub returns-clause-found : goal.returns-clause-found
returns-clause-found c =
    let f = c.in_ok-second.ensures.found in
    here_3600 (in_day_meets c.args.self.now) (in_hour_meets c.args.self.now) (field_has hour c.args.self.now.hour) c.args.from c.in_ok-second.second (by_hours c.args.self.now)
    (sym c.has.ensures ∙ c.if-not-has.false) f.met f.before f.later f.least

pub returns-in_err-second-clause-none : goal.returns-in_err-second-clause-none
returns-in_err-second-clause-none c = if_none _ c.from_residual.ensures
    (here_none_3600 (in_day_meets c.args.self.now) (in_hour_meets c.args.self.now) (field_has hour c.args.self.now.hour) c.args.from (by_hours c.args.self.now) c.in_err-second.ensures.none)
