use Rattle.std.proofs.Common.{length, ◌-◌, ◌≤◌}
use Rattle.rb_flow.specs.Tally.{leading}
use Rattle.rb_flow.proofs.recount.advance.Given as goal

abbrev pub invariant-loop-lead : goal.invariant-loop-lead
invariant-loop-lead l = l.lead ≤ leading l.units

abbrev pub decreases-loop-lead : goal.decreases-loop-lead
decreases-loop-lead l = length l.units - l.lead
