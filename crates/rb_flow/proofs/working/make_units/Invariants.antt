use Rattle.std.proofs.Common.{◌≡◌, ◌++◌, drop, map}
use Rattle.rb_marks.specs.Units.{step_units}
use Rattle.rb_marks.specs.View.{step_tree}
use Rattle.rb_flow.proofs.working.make_units.Given as goal

abbrev pub invariant-loop-step : goal.invariant-loop-step
invariant-loop-step l =
    l.units.items ++ step_units l.tiers l.step (map step_tree (drop l.step l.items))
    ≡ step_units l.tiers 0 (map step_tree l.items)
