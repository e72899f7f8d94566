use Rattle.std.proofs.Common.{map, take}
use Rattle.rb_plan.specs.Access.{node_run}
use Rattle.rb_plan.specs.Sorting.{AreSorted}
use Rattle.rb_plan.proofs.sorting.sort_each.Given as goal

-- the nodes so far are sorted
abbrev pub invariant-loop-i : goal.invariant-loop-i
invariant-loop-i l =
    AreSorted (node_run l.access) (map (λ node. node.now) (take l.i l.picked)) l.sorted
