use Rattle.std.proofs.Common.{◌≡◌, ◌≤◌, ◌++◌, ◌-◌, map, drop, length}
use Rattle.std.specs.List.{concat}
use Rattle.rb_wire.proofs.writer.pack.Given as goal

-- what is packed, and the pieces that are left, are all there was
abbrev pub invariant-loop-packed : goal.invariant-loop-packed
invariant-loop-packed l = record {
  within : l.packed ≤ length l.pieces;
  whole : l.packet.items ++ concat (map (λ piece. piece.now) (drop l.packed l.pieces))
      ≡ l.fn.packet.items ++ concat (map (λ piece. piece.now) l.pieces);
}

abbrev pub decreases-loop-packed : goal.decreases-loop-packed
decreases-loop-packed l = length l.pieces - l.packed
