use Rattle.std.proofs.Common.{◌≡◌, drop, map}
use Rattle.rb_marks.specs.Sound.{numbered}
use Rattle.rb_marks.specs.View.{branches_of, step_tree}
use Rattle.rb_marks.proofs.soundness.+numbering.Given as goal

abbrev pub invariant-number_steps-loop-step : goal.invariant-number_steps-loop-step
invariant-number_steps-loop-step l =
    numbered (branches_of (map step_tree (drop l.step-index l.steps))) l.number
    ≡ numbered (branches_of (map step_tree l.steps)) l.next
