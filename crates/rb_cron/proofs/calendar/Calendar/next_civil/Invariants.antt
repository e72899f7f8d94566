use Rattle.std.proofs.Common.{◌≤◌, ◌<◌, ◌+◌, ◌*◌}
use Rattle.rb_cron.specs.Days.{NoneMeet}
use Rattle.rb_cron.proofs.calendar.Calendar.next_civil.Given as goal

-- no civil time so far meets the fields
abbrev pub invariant-loop-day : goal.invariant-loop-day
invariant-loop-day l = record {
  passed : NoneMeet l.self l.from (l.day * 86_400 + l.start);
  reached : l.from ≤ l.day * 86_400 + l.start;
  within : l.start < 86_400;
}
