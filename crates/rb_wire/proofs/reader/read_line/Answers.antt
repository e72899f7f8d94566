use Rattle.std.proofs.Common.{◌∙◌, sym, arith, subst}
use Rattle.httparse.specs.Grammar.{HasNoRequest}
use Rattle.rb_wire.specs.Reading.{TellsEnd}
use Rattle.rb_wire.proofs.Readings.{
  gains_more,
  hears_later,
  hears_end,
  hears_fault,
  no_head_behind,
  no_head_holds_none,
  none_known,
  same_at_end,
  longer,
}
use Rattle.rb_wire.proofs.reader.read_line.Goals as goal

pub ended_in_head-requires : goal.ended_in_head-requires
ended_in_head-requires g c =
    let told = rw c.bytes.ensures at c.may_have_head.ensures in
    let none = no_head_behind _ _ _ _ c.loop-known.invariant.none told c.loop-known-test.true in
    let read = rw c.in-Ok-eq0.field-0-test at c.in-Ok-eq0.ensures.ok in
    subst HasNoRequest (sym (c.bytes-in-Ok-eq0.ensures ∙ same_at_end read)) none

pub returns-in-Ok-eq0-clause-on : goal.returns-in-Ok-eq0-clause-on
returns-in-Ok-eq0-clause-on g c =
    let read = rw c.in-Ok-eq0.field-0-test at c.in-Ok-eq0.ensures.ok in
    let told = subst (λ xs. TellsEnd xs c.ended_in_head.result)
    (c.bytes-in-Ok-eq0.ensures ∙ same_at_end read) c.ended_in_head.ensures in
    hears_later c.loop-known.invariant.gains (hears_end c.ended_in_head.result told read)

pub loop-known-preserved : goal.loop-known-preserved
loop-known-preserved g c =
    let told = rw c.bytes.ensures at c.may_have_head.ensures in
    let none = no_head_behind _ _ _ _ c.loop-known.invariant.none told c.loop-known-test.true in
    let read = c.in-Ok.ensures.ok in
    let grew = longer c.loop-known.buffer c.read.new.self read.got read.read.pending in
    let known = c.len-known-in-loop-known.ensures in
    record {
      gains = gains_more _ _ read.got c.loop-known.invariant.gains read.read
          (no_head_holds_none _ _ none);
      none = none_known c.loop-known.buffer c.read.new.self read.got _ read.read.pending known none;
      within = omega (arith, known, grew);
      grown = omega (arith, known, c.loop-known.invariant.grown, c.loop-known.invariant.within);
      faults = c.in-Ok.ensures.cause.steady ∙ c.loop-known.invariant.faults;
    }

pub returns-in-Err-clause-on : goal.returns-in-Err-clause-on
returns-in-Err-clause-on g c =
    let told = rw c.bytes.ensures at c.may_have_head.ensures in
    let none = no_head_behind _ _ _ _ c.loop-known.invariant.none told c.loop-known-test.true in
    hears_later c.loop-known.invariant.gains
    (hears_fault _ _ _ _ (no_head_holds_none _ _ none) c.in-Err.ensures.err c.in-Err.ensures.kept)
