use Rattle.std.proofs.Common.{arith, length-take, length-drop}
use Rattle.rb_causes.proofs.Written.{wrote_more, cut_there, cut_handed}
use Rattle.rb_causes.proofs.sink.put_all.Goals as goal

pub returns-in_err-done : goal.returns-in_err-done
returns-in_err-done g c =
    cut_handed c.from_residual.result c.in_err-done.field-0.0 c.from_residual.ensures.1
    (cut_there c.args.bytes.now c.loop-done.done _ c.in_err-done.field-0.0 c.loop-done-test.true c.loop-done.invariant.wrote c.in_err-done.ensures)

pub loop-done-preserved : goal.loop-done-preserved
loop-done-preserved g c = record {
  fits = omega (arith, simp (length-take, length-drop) at c.in_ok-done.ensures.0);
  wrote = wrote_more c.args.bytes.now c.loop-done.done c.in_ok-done.field-0 c.loop-done.invariant.wrote c.in_ok-done.ensures.2;
}
