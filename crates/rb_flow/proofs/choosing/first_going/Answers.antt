use Rattle.std.proofs.Common.{length, get_or, sym, ap, ◌∙◌, arith}
use Rattle.rb_marks.specs.Units.{outline}
use Rattle.rb_flow.proofs.Seats.{at_slice}
use Rattle.rb_flow.proofs.Grid.{seat}
use Rattle.rb_flow.proofs.Going.{none_goes_on, goes_first, none_goes_more, read_within, read_at}
use Rattle.rb_flow.proofs.choosing.first_going.Goals as goal

pub index-requires : goal.index-requires
index-requires c =
    let t = c.args.tally.now in
    let l = read_within t c.requires.is c.as_slice-place-items.result.now
    c.as_slice-place-items.ensures.value c.loop-place.place-index c.loop-place-test.true in
    let ok = t.states.ok.0 in
    omega (arith, l, ok)

pub can_run-requires-clause-node : goal.can_run-requires-clause-node
can_run-requires-clause-node c =
    let t = c.args.tally.now in
    let places = c.as_slice-place-items.result.now in
    let n = c.loop-place.place-index in
    let here = read_at t c.requires.is places c.as_slice-place-items.ensures.value n
    c.loop-place-test.true c.index.result.now c.index.ensures in
    let at = seat (outline c.args.plan.now) t c.requires.of (get_or places n 0)
    c.index.result.now here in
    at.node

pub returns-then-can_run : goal.returns-then-can_run
returns-then-can_run c =
    let t = c.args.tally.now in
    let places = c.as_slice-place-items.result.now in
    let n = c.loop-place.place-index in
    let e = c.as_slice-place-items.ensures.value in
    let here = read_at t c.requires.is places e n c.loop-place-test.true c.index.result.now
    c.index.ensures in
    goes_first (outline c.args.plan.now) t c.requires.is n (get_or places n 0) c.index.result.now
    c.loop-place.invariant (at_slice places t.places.items n 0 e c.loop-place-test.true) here
    (sym c.can_run.ensures ∙ c.if-can_run.true)

pub loop-place-preserved : goal.loop-place-preserved
loop-place-preserved c =
    let t = c.args.tally.now in
    let places = c.as_slice-place-items.result.now in
    let n = c.loop-place.place-index in
    let e = c.as_slice-place-items.ensures.value in
    let here = read_at t c.requires.is places e n c.loop-place-test.true c.index.result.now
    c.index.ensures in
    none_goes_more (outline c.args.plan.now) t c.requires.is n (get_or places n 0)
    c.index.result.now c.loop-place.invariant
    (at_slice places t.places.items n 0 e c.loop-place-test.true) here
    (sym c.can_run.ensures ∙ c.if-can_run.false)

pub returns : goal.returns
returns c =
    let t = c.args.tally.now in
    let e = ap length c.as_slice-place-items.ensures.value in
    none_goes_on (outline c.args.plan.now) t c.requires.is
    (λ j q s l at here. c.loop-place.invariant j q s
    (let past = c.loop-place-test.false in omega (arith, l, e, past)) at here)
