use Rattle.std.proofs.Common.{◌+◌, ◌*◌, drop, map}
use Rattle.rb_marks.specs.View.{step_tree}
use Rattle.rb_plan.specs.Resolved.{resolved_steps}
use Rattle.rb_plan.specs.Walked.{deeper}
use Rattle.rb_plan.proofs.Going.{Going}
use Rattle.rb_plan.proofs.inlining.+inline.Given as goal

abbrev pub decreases-inline_steps : goal.decreases-inline_steps
decreases-inline_steps l = l.levels * 4 + 3

abbrev pub decreases-inline_step : goal.decreases-inline_step
decreases-inline_step l = l.levels * 4 + 2

abbrev pub decreases-inline_act : goal.decreases-inline_act
decreases-inline_act l = l.levels * 4 + 1

abbrev pub decreases-inline_reference : goal.decreases-inline_reference
decreases-inline_reference l = l.levels * 4

abbrev pub invariant-inline_steps-loop-step : goal.invariant-inline_steps-loop-step
invariant-inline_steps-loop-step l =
    Going l.site l.fn.commands.items (resolved_steps (deeper l.levels l.project) l.project l.path l.steps)
    (resolved_steps (deeper l.levels l.project) l.project l.path (drop l.step-index l.steps)) l.commands.items (map step_tree l.done)
