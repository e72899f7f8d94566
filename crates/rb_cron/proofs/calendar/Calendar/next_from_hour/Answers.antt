use Rattle.std.proofs.Common.{arith}
use Rattle.rb_cron.specs.Days.{in_hour_meets, in_day_meets}
use Rattle.rb_cron.specs.Fields.{field_has, runs_of, hour}
use Rattle.rb_cron.proofs.Times.{from_3600, from_none_3600, if_none, by_hours, met_most}
use Rattle.rb_cron.proofs.calendar.Calendar.next_from_hour.Goals as goal

pub returns-clause-found : goal.returns-clause-found
returns-clause-found c =
    let m = c.in_ok-hour.ensures.found in
    let f = c.in_ok-second.ensures.found in
    from_3600 (in_day_meets c.args.self.now) (in_hour_meets c.args.self.now) (field_has hour c.args.self.now.hour) c.args.hour c.in_ok-hour.hour c.in_ok-second.second (by_hours c.args.self.now)
    m.met (let most = met_most hour (runs_of hour c.args.self.now.hour) c.in_ok-hour.hour m.met in omega (arith, most)) m.later m.least
    f.met f.before f.least

pub returns-in_err-second-clause-none : goal.returns-in_err-second-clause-none
returns-in_err-second-clause-none c = if_none _ c.from_residual-in_err-second.ensures
    (from_none_3600 (in_day_meets c.args.self.now) (in_hour_meets c.args.self.now) (field_has hour c.args.self.now.hour) c.args.hour (by_hours c.args.self.now) c.in_err-second.ensures.none)
