use Rattle.std.proofs.Common.{◌≡◌, ◌++◌}
use Rattle.std.specs.Iterator.Adapters.{zip_first, zip_second}
use Rattle.std.specs.Slice.Iter.{iter_rest}
use Rattle.rb_looks.specs.Looking.{permitted}
use Rattle.rb_looks.proofs.shown_nodes.permitted_nodes.Given as goal

-- what is made of those so far, and of those that are left
abbrev pub invariant-loop-decision : goal.invariant-loop-decision
invariant-loop-decision l =
    permitted l.decisions l.nodes
    ≡ l.some ++ permitted (iter_rest (zip_first l.decision-iterator))
    (iter_rest (zip_second l.decision-iterator))
