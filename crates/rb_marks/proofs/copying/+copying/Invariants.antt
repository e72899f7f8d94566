use Rattle.std.proofs.Common.{◌≡◌, take, map}
use Rattle.rb_marks.specs.View.{step_tree}
use Rattle.rb_marks.proofs.copying.+copying.Given as goal

abbrev pub invariant-copy_steps-loop-step : goal.invariant-copy_steps-loop-step
invariant-copy_steps-loop-step l =
    map step_tree l.copy.items ≡ map step_tree (take l.step-index l.steps)
