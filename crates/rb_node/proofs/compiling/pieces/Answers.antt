use Rattle.std.proofs.Common.{nat_eq}
use Rattle.rb_causes.specs.Texts.{pieces}
use Rattle.rb_node.proofs.Stopping.{cut_at, cut_start}
use Rattle.rb_node.proofs.compiling.pieces.Goals as goal

pub loop-c-init : goal.loop-c-init
loop-c-init c = cut_start _ _ (λ b. nat_eq b c.args.sign) c.args.chars.now c.new.ensures.items
    c.new-2.ensures

pub loop-c-preserved : goal.loop-c-preserved
loop-c-preserved c =
    cut_at c.loop-c.cutter.done.items c.take.new.self.done.items c.loop-c.cutter.piece
    c.take.new.self.piece (λ b. nat_eq b c.args.sign)
    c.args.chars.now c.loop-c.c-index c.c-item.result
    (pieces (λ b. nat_eq b c.args.sign) c.args.chars.now)
    c.loop-c-test.true c.c-item.is c.in_ok-take.ensures.done c.in_ok-take.ensures.piece
    c.loop-c.invariant
