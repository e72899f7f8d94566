use Rattle.std.proofs.Common.{◌≡◌, drop, map}
use Rattle.rb_flow.specs.Leaves.{result_in}
use Rattle.rb_marks.specs.Results.{steps_result}
use Rattle.rb_marks.specs.View.{branches_of, step_tree}
use Rattle.rb_flow.proofs.results.+result.Given as goal

abbrev pub invariant-steps_result-loop-step : goal.invariant-steps_result-loop-step
invariant-steps_result-loop-step l =
    steps_result (result_in l.row) l.keepgoing l.bad
    (branches_of (map step_tree (drop l.step-index l.steps)))
    ≡ steps_result (result_in l.row) l.keepgoing l.was_bad
    (branches_of (map step_tree l.steps))
