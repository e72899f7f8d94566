use Rattle.std.proofs.Common.{arith, refl, sym, ◌∙◌}
use Rattle.std.specs.Char.{is_ascii_alphabetic}
use Rattle.rb_cron.proofs.Runs.{passes_at, fails_at}
use Rattle.rb_cron.proofs.zone_rules.letters_len.Goals as goal

pub returns-then-not-is_ascii_alphabetic-clause-value : goal.returns-then-not-is_ascii_alphabetic-clause-value
returns-then-not-is_ascii_alphabetic-clause-value c =
    fails_at is_ascii_alphabetic c.args.text.now c.loop-b.b-index _ c.loop-b.len c.loop-b-test.true refl
    (sym c.is_ascii_alphabetic.ensures.value ∙ c.if-not-is_ascii_alphabetic.true) c.loop-b.invariant.rest

pub loop-b-preserved : goal.loop-b-preserved
loop-b-preserved c = record {
  at = omega (arith, c.loop-b.invariant.at);
  rest = passes_at is_ascii_alphabetic c.args.text.now c.loop-b.b-index _ c.loop-b.len c.loop-b-test.true refl
      (sym c.is_ascii_alphabetic.ensures.value ∙ c.if-not-is_ascii_alphabetic.false) c.loop-b.invariant.rest;
}
