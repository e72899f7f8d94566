use Rattle.std.proofs.Common.{◌∙◌, sym, arith, inl, inr, ◌<◌}
use Rattle.std.proofs.lemmas.Bool.Decides.{leb_tells}
use Rattle.rb_cron.specs.Fields.{range_of}
use Rattle.rb_cron.proofs.Times.{none_over}
use Rattle.rb_cron.proofs.run.least_from.Goals as goal

pub returns-then-meets-clause-found : goal.returns-then-meets-clause-found
returns-then-meets-clause-found c = record {
  met = sym c.meets.ensures ∙ c.if-meets.true;
  later = c.loop-value.auto.value;
  least = c.loop-value.invariant;
}

pub returns-clause-none : goal.returns-clause-none
returns-clause-none c = λ v up. elim (leb_tells c.loop-value.value v) [
  | inl at ↦
      let over : (range_of c.args.field).greatest < v = omega (arith, at.1, c.loop-value-test.false, c.greatest-value-end.ensures.value) in
      none_over (range_of c.args.field) c.args.runs.now v over
  | inr less ↦ c.loop-value.invariant v up less.1
]
