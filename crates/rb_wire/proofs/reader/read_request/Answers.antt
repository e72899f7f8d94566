use Rattle.std.proofs.Common.{◌∙◌, refl}
use Rattle.rb_wire.proofs.Readings.{
  gains_both,
  hears_later,
  hears_broken,
  hears_asked,
  hears_no_memory,
  whole_holds_one,
}
use Rattle.rb_wire.proofs.reader.read_request.Goals as goal

pub returns-in-Ok-clause-next : goal.returns-in-Ok-clause-next
returns-in-Ok-clause-next g c =
    hears_later c.loop-parts.invariant.gains
    (hears_asked _ _ _ _ c.in-Ok.ensures.ok c.in-Ok.ensures.given)

pub returns-in-Err-clause-next : goal.returns-in-Err-clause-next
returns-in-Err-clause-next g c =
    let whole = rw c.bytes.ensures at c.in-Whole.ensures in
    hears_later c.loop-parts.invariant.gains
    (hears_no_memory _ _ _ (whole_holds_one _ _ _ _ _ whole) c.in-Err.ensures.err)

pub returns-in-Broken-clause-next : goal.returns-in-Broken-clause-next
returns-in-Broken-clause-next g c =
    let broken = rw c.bytes.ensures at c.in-Broken.ensures in
    hears_later c.loop-parts.invariant.gains (hears_broken _ _ _ broken)

pub returns-in-Some-clause-next : goal.returns-in-Some-clause-next
returns-in-Some-clause-next g c =
    hears_later c.loop-parts.invariant.gains c.in-Some.ensures.on

pub loop-parts-preserved : goal.loop-parts-preserved
loop-parts-preserved g c = record {
  gains = gains_both c.loop-parts.invariant.gains c.in_default.ensures.on.0;
  faults = c.in_default.ensures.steady refl ∙ c.loop-parts.invariant.faults;
}
