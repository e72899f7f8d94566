use Rattle.std.proofs.Common.{◌≡◌, ◌≤◌, true, List, [], ◌∷◌, map, length, arith, refl}
use Rattle.rb_marks.specs.Sound.{has_branch}
use Rattle.rb_marks.specs.View.{branches_of, step_tree}
use Rattle.rb_marks.specs.declared.plan.Step.{Step}
use Rattle.rb_marks.proofs.soundness.has_step.Goals as goal

has_some : (steps : List Step) → 1 ≤ length steps → true
    ≡ has_branch (branches_of (map step_tree steps))
has_some [] h = absurd (omega (arith, h))
has_some (step ∷ steps) h = refl

pub returns-in-len1-up : goal.returns-in-len1-up
returns-in-len1-up c = has_some c.args.steps.now c.in-len1-up.len_at_least
