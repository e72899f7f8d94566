use Rattle.std.proofs.Common.{pos, neg_ℤ, ◌-ℤ◌, ◌≤ℤ◌, ◌<ℤ◌}
use Rattle.std.specs.Prelude.{◌⊎◌}
use Rattle.rb_cron.specs.Next.{NoneDue, natural_of, end_of_schedules}
use Rattle.rb_cron.proofs.schedule.Schedule.next_due.Given as goal

-- none is due so far
abbrev pub invariant-loop-at : goal.invariant-loop-at
invariant-loop-at l = record {
  none : NoneDue l.self l.after l.at;
  early : neg_ℤ (pos 93_599) ≤ℤ l.at;
  later : (l.after <ℤ l.at) ⊎ (end_of_schedules ≤ℤ l.at);
}

abbrev pub decreases-loop-at : goal.decreases-loop-at
decreases-loop-at l = natural_of (end_of_schedules -ℤ l.at)
