use Rattle.std.proofs.Common.{arith}
use Rattle.rb_demo.proofs.Written.{next_drawn, line_written}
use Rattle.rb_demo.proofs.documents.nodes_text.Goals as goal

pub loop-before-preserved : goal.loop-before-preserved
loop-before-preserved c =
    let inv = c.loop-before.invariant in (
      next_drawn c.loop-before.before c.loop-before.draw _ inv.0 c.generator-draw.ensures,
      line_written c.args.nodes c.loop-before.before _ _ _ (omega (arith, c.loop-before-test.true)) c.in_ok-put_node.ensures inv.1,
    )
