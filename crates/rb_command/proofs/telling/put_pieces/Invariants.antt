use Rattle.std.proofs.Common.{map, drop}
use Rattle.rb_command.proofs.FaultLines.{Told}
use Rattle.rb_command.proofs.telling.put_pieces.Given as goal

-- what was written, and the pieces that are left, are all pieces
abbrev pub invariant-loop-piece : goal.invariant-loop-piece
invariant-loop-piece g l =
    let shown = g.O.Sink.shown in
    Told (map (λ piece. piece.now) l.pieces) (map (λ piece. piece.now) (drop l.piece-index l.pieces)) (shown l.fn.out) (shown l.out)
