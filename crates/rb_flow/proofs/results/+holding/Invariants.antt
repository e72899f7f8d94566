use Rattle.std.proofs.Common.{◌≡◌, drop, map}
use Rattle.rb_marks.specs.Units.{steps_hold}
use Rattle.rb_marks.specs.View.{branches_of, step_tree}
use Rattle.rb_flow.proofs.results.+holding.Given as goal

abbrev pub invariant-steps_hold-loop-step : goal.invariant-steps_hold-loop-step
invariant-steps_hold-loop-step l =
    steps_hold (branches_of (map step_tree (drop l.step-index l.steps))) l.slot
    ≡ steps_hold (branches_of (map step_tree l.steps)) l.slot
