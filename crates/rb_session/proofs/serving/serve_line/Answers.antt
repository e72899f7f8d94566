use Rattle.std.proofs.Common.{◌≡◌, ◌≤◌, ◌+◌, ◌⊎◌, ◌∙◌, ap, arith, false, refl, subst, sym, true}
use Rattle.rb_causes.specs.Causes.{Rose}
use Rattle.rb_api.specs.declared.ended.Ended.TheVariants.{LineFault}
use Rattle.rb_door.proofs.Goings.{goes_on_refl, goes_on_then}
use Rattle.rb_door.specs.Guests.{AskingFailed, NoneLeft, TooMany}
use Rattle.rb_session.specs.Visits.{scene}
use Rattle.rb_session.specs.declared.farewell.CallersEnd.{CallersEnd}
use Rattle.rb_session.proofs.Pumping.{worker_stays}
use Rattle.rb_session.proofs.Visiting.{
  LineSoFar,
  asks_so,
  failed_by,
  line_begins,
  line_ends,
  line_goes_on,
  rose_by,
  told_failed,
  told_too_many,
}
use Rattle.rb_session.proofs.serving.serve_line.Goals as goal

pub serve_stay-ended-requires-clause-worker : goal.serve_stay-ended-requires-clause-worker
serve_stay-ended-requires-clause-worker g c =
    worker_stays (g.C.Clerk.told c.args.clerk.now) (g.C.Clerk.told c.loop-served.clerk)
    c.loop-served.invariant.goes 0 c.requires.worker

pub loop-served-init : goal.loop-served-init
loop-served-init g c =
    let may_be = g.T.Clock.may_be c.args.clock.now in
    let old = scene (g.C.Clerk.told c.args.clerk.now) (g.S.Spawner.shown c.args.spawner.now)
    (g.L.Line.callers c.args.line.now) c.args.buffer.now in
    let unfailed : c.new-callers.result.line_failed ≡ false =
    ap (λ (e : CallersEnd). e.line_failed) c.new-callers.ensures in
    record {
      so_far = subst (λ e. LineSoFar may_be c.args.tokens.now c.args.limit 0 old old e)
          (sym c.new-callers.ensures)
          (line_begins may_be c.args.tokens.now c.args.limit old);
      goes = goes_on_refl (g.C.Clerk.told c.args.clerk.now);
      later = omega arith;
      cause = λ e. absurd (grind (arith, e, unfailed));
      spawner = omega arith;
    }

pub loop-served-preserved : goal.loop-served-preserved
loop-served-preserved g c =
    let may_be = g.T.Clock.may_be c.args.clock.now in
    let old = scene (g.C.Clerk.told c.args.clerk.now) (g.S.Spawner.shown c.args.spawner.now)
    (g.L.Line.callers c.args.line.now) c.args.buffer.now in
    let mid = scene (g.C.Clerk.told c.loop-served.clerk) (g.S.Spawner.shown c.loop-served.spawner)
    (g.L.Line.callers c.loop-served.line) c.loop-served.buffer in
    let end = scene (g.C.Clerk.told c.serve_stay-ended.new.clerk)
    (g.S.Spawner.shown c.serve_stay-ended.new.spawner)
    (g.L.Line.callers c.serve_stay-ended.new.line) c.serve_stay-ended.new.buffer in
    let before = c.loop-served.invariant in
    let stay = c.serve_stay-ended.ensures in
    let asked = g.L.Line.callers c.next_caller.new.self in
    let asks = asks_so true (g.L.Line.callers c.loop-served.line) asked
    (rw (← c.in-Ok-true.field-0-test) c.in-Ok-true.ensures.waits) c.in-Ok-true.ensures.ok in
    let start = g.L.Line.faults c.args.line.now in
    let asking = g.L.Line.faults c.loop-served.line in
    let serving = g.L.Line.faults c.next_caller.new.self in
    let ended = g.L.Line.faults c.serve_stay-ended.new.line in
    let further : asking ≤ serving = c.in-Ok-true.ensures.cause.later in
    let later : start ≤ ended = omega (arith, before.later, further, stay.later) in
    let caused : (c.loop-served.callers.line_failed ≡ true)
    ⊎ (c.serve_stay-ended.result ≡ LineFault) → Rose start ended =
    rose_by start asking serving ended c.loop-served.callers c.serve_stay-ended.result
    before.later further stay.later before.cause stay.cause in
    record {
      so_far = subst (λ e. LineSoFar may_be c.args.tokens.now c.args.limit
          (c.loop-served._served + 1) old end e) (sym c.with-callers.ensures)
          (line_goes_on may_be c.args.tokens.now c.args.limit c.loop-served._served old mid end
          c.loop-served.callers asked stay.stay.0 c.serve_stay-ended.result before.so_far asks
          stay.stay.1);
      goes = goes_on_then _ _ _ before.goes stay.goes;
      later = later;
      cause = λ e. caused (failed_by c.loop-served.callers c.serve_stay-ended.result
          (sym (ap (λ (k : CallersEnd). k.line_failed) c.with-callers.ensures) ∙ e));
      spawner = omega (arith, before.spawner, stay.spawner);
    }

pub returns-in-Ok-false-clause-served : goal.returns-in-Ok-false-clause-served
returns-in-Ok-false-clause-served g c =
    line_ends (g.T.Clock.may_be c.args.clock.now) c.args.tokens.now c.args.limit
    c.loop-served._served _ _ _ c.loop-served.callers NoneLeft c.loop-served.callers
    c.loop-served.invariant.so_far (
      asks_so false (g.L.Line.callers c.loop-served.line) (g.L.Line.callers c.next_caller.new.self)
          (rw (← c.in-Ok-false.field-0-test) c.in-Ok-false.ensures.waits) c.in-Ok-false.ensures.ok,
      c.loop-served.auto._served-end,
    ) refl (λ stays told. told)

pub returns-in-Err-clause-served : goal.returns-in-Err-clause-served
returns-in-Err-clause-served g c =
    line_ends (g.T.Clock.may_be c.args.clock.now) c.args.tokens.now c.args.limit
    c.loop-served._served _ _ _ c.loop-served.callers AskingFailed c.failed.result
    c.loop-served.invariant.so_far (c.in-Err.ensures.err, c.loop-served.auto._served-end) refl
    (λ stays told. c.failed.ensures ∙ told_failed stays c.loop-served.callers told)

pub returns-in-Ok-true-next_caller-clause-served : goal.returns-in-Ok-true-next_caller-clause-served
returns-in-Ok-true-next_caller-clause-served g c =
    line_ends (g.T.Clock.may_be c.args.clock.now) c.args.tokens.now c.args.limit
    c.loop-served._served _ _ _ c.loop-served.callers TooMany c.one_too_many.result
    c.loop-served.invariant.so_far (
      asks_so true (g.L.Line.callers c.loop-served.line) (g.L.Line.callers c.next_caller-2.new.self)
          (rw (← c.in-Ok-true-next_caller.field-0-test) c.in-Ok-true-next_caller.ensures.waits)
          c.in-Ok-true-next_caller.ensures.ok,
      omega (arith, c.loop-served.auto._served-end, c.loop-served-test.false),
    ) refl
    (λ stays told. c.one_too_many.ensures ∙ told_too_many stays c.loop-served.callers told)

pub returns-in-Ok-false-next_caller-clause-served : goal.returns-in-Ok-false-next_caller-clause-served
returns-in-Ok-false-next_caller-clause-served g c =
    line_ends (g.T.Clock.may_be c.args.clock.now) c.args.tokens.now c.args.limit
    c.loop-served._served _ _ _ c.loop-served.callers NoneLeft c.loop-served.callers
    c.loop-served.invariant.so_far (
      asks_so false (g.L.Line.callers c.loop-served.line)
          (g.L.Line.callers c.next_caller-2.new.self)
          (rw (← c.in-Ok-false-next_caller.field-0-test) c.in-Ok-false-next_caller.ensures.waits)
          c.in-Ok-false-next_caller.ensures.ok,
      c.loop-served.auto._served-end,
    ) refl (λ stays told. told)

pub returns-in-Err-next_caller-clause-served : goal.returns-in-Err-next_caller-clause-served
returns-in-Err-next_caller-clause-served g c =
    line_ends (g.T.Clock.may_be c.args.clock.now) c.args.tokens.now c.args.limit
    c.loop-served._served _ _ _ c.loop-served.callers AskingFailed
    c.failed-in-Err-next_caller.result c.loop-served.invariant.so_far
    (c.in-Err-next_caller.ensures.err, c.loop-served.auto._served-end) refl
    (λ stays told.
    c.failed-in-Err-next_caller.ensures ∙ told_failed stays c.loop-served.callers told)
