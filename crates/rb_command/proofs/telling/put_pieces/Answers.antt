use Rattle.rb_causes.proofs.Written.{cut_handed}
use Rattle.rb_command.proofs.FaultLines.{told_more, told_cut, at_piece}
use Rattle.rb_command.proofs.telling.put_pieces.Goals as goal

pub returns-in_err-put_all : goal.returns-in_err-put_all
returns-in_err-put_all g c =
    cut_handed c.from_residual.result c.in_err-put_all.field-0.0 c.from_residual.ensures.1
    (told_cut _ _ c.in_err-put_all.field-0.0 (at_piece c.args.pieces.now c.loop-piece.piece-index _ c.loop-piece-test.true c.loop-piece.invariant) c.in_err-put_all.ensures)

pub loop-piece-preserved : goal.loop-piece-preserved
loop-piece-preserved g c =
    told_more _ _ (at_piece c.args.pieces.now c.loop-piece.piece-index _ c.loop-piece-test.true c.loop-piece.invariant) c.in_ok-put_all.ensures
