use Rattle.std.proofs.Common.{◌∙◌}
use Rattle.rb_wire.proofs.Readings.{
  cut_now,
  gains_more,
  hears_later,
  hears_end,
  hears_fault,
  holds_none,
}
use Rattle.rb_wire.specs.declared.heard.Heard.TheVariants.{Broken}
use Rattle.rb_wire.specs.declared.heard.WireFault.TheVariants.{Cut}
use Rattle.rb_wire.proofs.reader.read_bytes.Goals as goal

pub returns-in-Ok-eq0-clause-on : goal.returns-in-Ok-eq0-clause-on
returns-in-Ok-eq0-clause-on g c =
    let gains = c.loop-buffer.invariant.gains in
    let fewer = rw c.len.ensures at c.loop-buffer-test.true in
    hears_later gains (hears_end (Broken Cut) (cut_now _ c.requires gains fewer)
    (rw c.in-Ok-eq0.field-0-test at c.in-Ok-eq0.ensures.ok))

pub loop-buffer-preserved : goal.loop-buffer-preserved
loop-buffer-preserved g c =
    let gains = c.loop-buffer.invariant.gains in
    let fewer = rw c.len.ensures at c.loop-buffer-test.true in
    let read = c.in-Ok.ensures.ok in
    record {
      gains = gains_more _ _ read.got gains read.read
          (holds_none _ _ Cut (cut_now _ c.requires gains fewer _));
      faults = c.in-Ok.ensures.cause.steady ∙ c.loop-buffer.invariant.faults;
    }

pub returns-in-Err-clause-on : goal.returns-in-Err-clause-on
returns-in-Err-clause-on g c =
    let gains = c.loop-buffer.invariant.gains in
    let fewer = rw c.len.ensures at c.loop-buffer-test.true in
    hears_later gains (hears_fault _ _ _ _
    (holds_none _ _ Cut (cut_now _ c.requires gains fewer _))
    c.in-Err.ensures.err c.in-Err.ensures.kept)
