use Rattle.std.proofs.Common.{◌+◌, ◌*◌, ◌/◌, arith}
use Rattle.rb_cron.specs.Days.{in_day_meets}
use Rattle.rb_cron.proofs.Times.{some_on, nothing_on}
use Rattle.rb_cron.proofs.calendar.Calendar.next_in_day.Goals as goal

pub returns-in-None-clause-found : goal.returns-in-None-clause-found
returns-in-None-clause-found c =
    some_on (in_day_meets c.args.self.now) c.args.from ((c.args.from / 3600 + 1) * 3600) 86400 c.next_from_hour.result (omega arith)
    c.in-None.ensures.none c.next_from_hour.ensures.found

pub returns-in-None-clause-none : goal.returns-in-None-clause-none
returns-in-None-clause-none c =
    nothing_on (in_day_meets c.args.self.now) c.args.from ((c.args.from / 3600 + 1) * 3600) 86400 c.next_from_hour.result
    c.in-None.ensures.none c.next_from_hour.ensures.none
