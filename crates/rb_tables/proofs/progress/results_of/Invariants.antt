use Rattle.std.proofs.Common.{◌≡◌, ◌≤◌, vec_capacity}
use Rattle.rb_marks.specs.Units.{outline}
use Rattle.rb_tables.specs.Progress.{results_below}
use Rattle.rb_tables.proofs.progress.results_of.Given as goal

-- the results of the nodes so far
abbrev pub invariant-loop-node : goal.invariant-loop-node
invariant-loop-node l =
    (l.node ≤ l.fn.nodes)
    × (l.room.items ≡ results_below (outline l.flow.plan) l.flow.marks l.node)
    × (vec_capacity l.room ≡ vec_capacity l.fn.room)
