use Rattle.std.proofs.Common.{◌≡◌, ◌≤◌, ◌<◌, ℕ, false, Some}
use Rattle.rb_cron.specs.Fields.{range_of, runs_meet}
use Rattle.rb_cron.proofs.run.least_from.Given as goal

-- no value so far is met
abbrev pub invariant-loop-value : goal.invariant-loop-value
invariant-loop-value l = (v : ℕ) → l.from ≤ v → v < l.value → runs_meet (range_of l.field) (Some l.runs) v ≡ false
