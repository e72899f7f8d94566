use Rattle.std.proofs.Common.{arith}
use Rattle.rb_body.proofs.Saying.{nothing_read, text_says}
use Rattle.rb_body.proofs.bodies.value_in.Goals as goal

pub returns-in-Ok-clause-ok : goal.returns-in-Ok-clause-ok
returns-in-Ok-clause-ok c =
    text_says c.args.bytes.now _ c.in-Ok.ensures.ok.0 c.in-Ok.ensures.ok.1

pub returns-else-is_memory-clause-bad : goal.returns-else-is_memory-clause-bad
returns-else-is_memory-clause-bad c bad =
    nothing_read c.args.bytes.now (c.in-Err.ensures.err
    (λ memory. let told = c.if-is_memory.ensures.1 memory in grind (arith, told)))
