use Rattle.std.proofs.Common.{◌≡◌, ◌+◌, ◌++◌, length}
use Rattle.std.specs.Vec.Iter.{into_iter_items}
use Rattle.rb_orch.specs.Picking.{standing_at}
use Rattle.rb_orch.proofs.picking.standing_at.Given as goal

-- what is kept and what is kept of the nodes left is all that is kept
abbrev pub invariant-loop-node : goal.invariant-loop-node
invariant-loop-node l = record {
  kept : l.kept.items ++ standing_at l.taken l.place (into_iter_items l.node-iterator)
      ≡ standing_at l.taken 0 l.fn.nodes.items;
  counted : l.place + length (into_iter_items l.node-iterator) ≡ length l.fn.nodes.items;
}
