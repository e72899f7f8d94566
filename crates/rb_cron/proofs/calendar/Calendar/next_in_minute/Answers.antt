use Rattle.std.proofs.Common.{◌∙◌, sym, refl, arith}
use Rattle.rb_cron.specs.Days.{in_hour_meets}
use Rattle.rb_cron.specs.Fields.{field_has, runs_of, seconds, minute}
use Rattle.rb_cron.proofs.Times.{here_60, met_most}
use Rattle.rb_cron.proofs.calendar.Calendar.next_in_minute.Goals as goal

pub returns-clause-found : goal.returns-clause-found
returns-clause-found c =
    let f = c.in_ok-second.ensures.found in
    here_60 (in_hour_meets c.args.self.now) (field_has seconds c.args.self.now.seconds) (field_has minute c.args.self.now.minute) c.args.from c.in_ok-second.second (λ v. refl)
    (sym c.has.ensures ∙ c.if-not-has.false) f.met
    (let most = met_most seconds (runs_of seconds c.args.self.now.seconds) c.in_ok-second.second f.met in omega (arith, most)) f.later f.least
