use Rattle.std.proofs.Common.{◌≡◌, drop, map}
use Rattle.rb_flow.specs.Leaves.{result_in}
use Rattle.rb_marks.specs.First.{next_in_steps}
use Rattle.rb_marks.specs.View.{branches_of, step_tree}
use Rattle.rb_flow.proofs.results.+next.Given as goal

abbrev pub invariant-next_in_steps-loop-step : goal.invariant-next_in_steps-loop-step
invariant-next_in_steps-loop-step l =
    next_in_steps (result_in l.row) l.keepgoing
    (branches_of (map step_tree (drop l.step-index l.steps)))
    ≡ next_in_steps (result_in l.row) l.keepgoing (branches_of (map step_tree l.steps))
