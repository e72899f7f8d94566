use Rattle.std.proofs.Common.{arith}
use Rattle.rb_option.proofs.Pairing.{pair_step}
use Rattle.rb_option.specs.Arguments.{pairs_from}
use Rattle.rb_option.proofs.arguments.pairs_of.Goals as goal

pub overflow_add-at : goal.overflow_add-at
overflow_add-at c = omega (arith, c.loop-at.invariant.within, c.requires)

pub loop-at-preserved : goal.loop-at-preserved
loop-at-preserved c = record {
  within = omega (arith, c.loop-at-test.true);
  pairs = rw c.in_ok-push.ensures.ok (pair_step c.loop-at.pairs c.in_ok-pair.field-0 c.args.words.now c.loop-at.at c.index-words-at.result c.index-words-at-in-loop-at.result
      (pairs_from 1 c.args.words.now) c.loop-at-test.true c.index-words-at.is c.index-words-at-in-loop-at.is
      (rw (c.as_str.ensures, c.as_str-in-loop-at.ensures) at c.in_ok-pair.ensures.ok) c.loop-at.invariant.pairs);
}
