use Rattle.std.proofs.Common.{refl, arith}
use Rattle.rb_cron.specs.Days.{in_hour_meets}
use Rattle.rb_cron.specs.Fields.{field_has, runs_of, seconds, minute}
use Rattle.rb_cron.proofs.Times.{from_60, from_none_60, if_none, met_most}
use Rattle.rb_cron.proofs.calendar.Calendar.next_from_minute.Goals as goal

pub returns-clause-found : goal.returns-clause-found
returns-clause-found c =
    let m = c.in_ok-minute.ensures.found in
    let f = c.in_ok-second.ensures.found in
    from_60 (in_hour_meets c.args.self.now) (field_has seconds c.args.self.now.seconds) (field_has minute c.args.self.now.minute) c.args.minute c.in_ok-minute.minute c.in_ok-second.second (λ v. refl)
    m.met (let most = met_most minute (runs_of minute c.args.self.now.minute) c.in_ok-minute.minute m.met in omega (arith, most)) m.later m.least
    f.met (let most = met_most seconds (runs_of seconds c.args.self.now.seconds) c.in_ok-second.second f.met in omega (arith, most)) f.least

pub returns-in_err-second-clause-none : goal.returns-in_err-second-clause-none
returns-in_err-second-clause-none c = if_none _ c.from_residual-in_err-second.ensures
    (from_none_60 (in_hour_meets c.args.self.now) (field_has seconds c.args.self.now.seconds) (field_has minute c.args.self.now.minute) c.args.minute (λ v. refl) (λ v up less. c.in_err-second.ensures.none v up))
