use Rattle.std.proofs.Common.{◌≡◌, ◌≤◌, ◌+◌, ◌++◌, length, vec_capacity}
use Rattle.std.specs.Vec.Iter.{into_iter_items}
use Rattle.rb_changes.proofs.moving.move_behind.Given as goal

-- what was moved and what is left are all items, and there is memory for what is left
abbrev pub invariant-loop-item : goal.invariant-loop-item
invariant-loop-item g l = record {
  held : l.room.items ++ into_iter_items l.item-iterator ≡ l.fn.room.items ++ l.fn.items.items;
  memory : length l.room.items + length (into_iter_items l.item-iterator) ≤ vec_capacity l.room;
  same : vec_capacity l.room ≡ vec_capacity l.fn.room;
}
