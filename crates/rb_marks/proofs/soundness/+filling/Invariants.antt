use Rattle.std.proofs.Common.{◌≡◌, drop, map}
use Rattle.rb_marks.specs.Sound.{all_filled}
use Rattle.rb_marks.specs.View.{branches_of, step_tree}
use Rattle.rb_marks.proofs.soundness.+filling.Given as goal

abbrev pub invariant-all_filled-loop-step : goal.invariant-all_filled-loop-step
invariant-all_filled-loop-step l =
    all_filled (branches_of (map step_tree (drop l.step-index l.steps)))
    ≡ all_filled (branches_of (map step_tree l.steps))
