use Rattle.std.proofs.Common.{arith, refl, sym, ◌∙◌}
use Rattle.rb_causes.specs.Numbers.{is_digit}
use Rattle.rb_cron.proofs.Runs.{passes_at, fails_at}
use Rattle.rb_cron.proofs.zone_rules.digits_len.Goals as goal

pub returns-then-not-is_ascii_digit-clause-value : goal.returns-then-not-is_ascii_digit-clause-value
returns-then-not-is_ascii_digit-clause-value c =
    fails_at is_digit c.args.text.now c.loop-b.b-index _ c.loop-b.len c.loop-b-test.true refl
    (sym c.is_ascii_digit.ensures.value ∙ c.if-not-is_ascii_digit.true) c.loop-b.invariant.rest

pub loop-b-preserved : goal.loop-b-preserved
loop-b-preserved c = record {
  at = omega (arith, c.loop-b.invariant.at);
  rest = passes_at is_digit c.args.text.now c.loop-b.b-index _ c.loop-b.len c.loop-b-test.true refl
      (sym c.is_ascii_digit.ensures.value ∙ c.if-not-is_ascii_digit.false) c.loop-b.invariant.rest;
}
