use Rattle.std.proofs.Common.{◌≡◌, ◌++◌, map, drop}
use Rattle.rb_marks.specs.View.{step_tree}
use Rattle.rb_top.specs.Drill.{branches_from}
use Rattle.rb_top.proofs.plan.steps_of.Given as goal

abbrev pub invariant-loop-slot : goal.invariant-loop-slot
invariant-loop-slot l = map step_tree l.made.items ++ branches_from l.slot (drop l.slot l.steps) ≡ branches_from 0 l.steps
