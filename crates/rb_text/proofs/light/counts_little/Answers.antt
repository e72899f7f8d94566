use Rattle.std.proofs.Common.{◌≡◌, ◌+◌, drop, arith, subst, sym}
use Rattle.rb_text.specs.Light.{brace_total}
use Rattle.rb_text.proofs.Scan.{counts, too_many, counted}
use Rattle.rb_text.proofs.light.counts_little.Goals as goal

pub loop-b-init : goal.loop-b-init
loop-b-init c = record { whole = omega (arith, counts c.args.text.now); little = omega arith }

pub returns-then-total-number-gt-MOST : goal.returns-then-total-number-gt-MOST
returns-then-total-number-gt-MOST c =
    too_many c.args.text.now c.loop-b.b-index c.loop-b.total c.loop-b.number _ c.loop-b-test.true
    (sym c.if-is_ascii_digit.ensures.value)
    (subst (λ t. c.loop-b.total + counted t c.loop-b.number (drop c.loop-b.b-index c.args.text.now)
    ≡ brace_total c.args.text.now) c.if-not-in_braces.false c.loop-b.invariant.whole)
    (omega (arith, c.if-total-number-gt-MOST.true, c.from.ensures))
