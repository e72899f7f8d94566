use Rattle.std.proofs.Common.{◌≡◌, ◌+◌, drop, map}
use Rattle.rb_flow.specs.Kept.{first_holding}
use Rattle.rb_marks.specs.View.{step_tree}
use Rattle.rb_flow.proofs.working.first_holding.Given as goal

abbrev pub invariant-loop-at : goal.invariant-loop-at
invariant-loop-at l =
    first_holding (map step_tree (drop l.at l.steps)) l.slot + l.at
    ≡ first_holding (map step_tree l.steps) l.slot
