use Rattle.std.proofs.Common.{◌≡◌, ◌++◌, drop}
use Rattle.rb_marks.specs.Units.{node_units}
use Rattle.rb_flow.proofs.working.push_units.Given as goal

abbrev pub invariant-loop-node : goal.invariant-loop-node
invariant-loop-node l = l.units.items ++ node_units l.step l.node (drop l.node l.tiers)
    ≡ l.initial.units.items ++ node_units l.step 0 l.tiers
