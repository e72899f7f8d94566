use Rattle.std.proofs.Common.{◌≡◌, drop}
use Rattle.rb_plan.specs.Worlds.{lowest_running}
use Rattle.rb_plan.proofs.Lowest.{lowest_with}
use Rattle.rb_plan.proofs.finding.lowest_running.Given as goal

-- the lowest so far with the lowest of the rest is the lowest of all
abbrev pub invariant-loop-one : goal.invariant-loop-one
invariant-loop-one l =
    lowest_with l.lowest (lowest_running l.id (drop l.one-index l.running)) ≡ lowest_running l.id l.running
