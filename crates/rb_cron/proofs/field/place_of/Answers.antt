use Rattle.std.proofs.Common.{arith}
use Rattle.rb_cron.proofs.Names.{found_name, other_name, no_name}
use Rattle.rb_cron.proofs.field.place_of.Goals as goal

pub returns-then-eq_ignore_ascii_case : goal.returns-then-eq_ignore_ascii_case
returns-then-eq_ignore_ascii_case c =
    found_name c.args.names.now c.args.text.now c.loop-name.name-index c.loop-name.place _ _ c.loop-name-test.true
    (c.eq_ignore_ascii_case.ensures.test.0 c.if-eq_ignore_ascii_case.true) c.loop-name.invariant.rest

pub loop-name-preserved : goal.loop-name-preserved
loop-name-preserved c = record {
  at = omega (arith, c.loop-name.invariant.at);
  rest = other_name c.args.names.now c.args.text.now c.loop-name.name-index c.loop-name.place _ _ c.loop-name-test.true
      (λ same. let yes' = c.eq_ignore_ascii_case.ensures.test.1 same in let no' = c.if-eq_ignore_ascii_case.false in cc) c.loop-name.invariant.rest;
}

pub returns : goal.returns
returns c = no_name c.args.names.now c.args.text.now c.loop-name.name-index c.loop-name.place _ c.loop-name-test.false c.loop-name.invariant.rest
