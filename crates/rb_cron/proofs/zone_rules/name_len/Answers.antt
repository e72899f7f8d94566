use Rattle.std.proofs.Common.{arith, refl, sym, ◌∙◌}
use Rattle.rb_cron.specs.ZoneRules.{is_zone_name_byte}
use Rattle.rb_cron.proofs.Runs.{passes_at, fails_at}
use Rattle.rb_cron.proofs.zone_rules.name_len.Goals as goal

pub returns-then-not-is_zone_name_byte-clause-value : goal.returns-then-not-is_zone_name_byte-clause-value
returns-then-not-is_zone_name_byte-clause-value c =
    fails_at is_zone_name_byte c.args.text.now c.loop-b.b-index _ c.loop-b.len c.loop-b-test.true refl
    (sym c.is_zone_name_byte.ensures ∙ c.if-not-is_zone_name_byte.true) c.loop-b.invariant.rest

pub loop-b-preserved : goal.loop-b-preserved
loop-b-preserved c = record {
  at = omega (arith, c.loop-b.invariant.at);
  rest = passes_at is_zone_name_byte c.args.text.now c.loop-b.b-index _ c.loop-b.len c.loop-b-test.true refl
      (sym c.is_zone_name_byte.ensures ∙ c.if-not-is_zone_name_byte.false) c.loop-b.invariant.rest;
}
