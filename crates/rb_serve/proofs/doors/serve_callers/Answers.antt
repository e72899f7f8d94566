use Rattle.std.proofs.Common.{◌≤◌, arith, false, refl, true}
use Rattle.rb_door.proofs.Goings.{goes_on_refl, goes_on_then}
use Rattle.rb_door.specs.Guests.{AskingFailed, NoneLeft}
use Rattle.rb_serve.proofs.Callers.{rose_by}
use Rattle.rb_serve.proofs.Conversing.{asks_so, begins, conversed, ends, goes_on}
use Rattle.rb_serve.proofs.doors.serve_callers.Goals as goal

pub loop-init : goal.loop-init
loop-init g c = record {
  so_far = begins (g.T.Clock.may_be c.args.clock.now) c.args.tokens.now
      (g.C.Clerk.told c.args.clerk.now) (g.L.Line.callers c.args.line.now);
  goes = goes_on_refl (g.C.Clerk.told c.args.clerk.now);
  later = omega arith;
  cause = λ e. absurd (grind (arith, e));
}

pub loop-preserved : goal.loop-preserved
loop-preserved g c =
    let i = c.loop.invariant in
    let served = c.serve_caller-ended.ensures in
    let asked : g.L.Line.faults c.loop.line ≤ g.L.Line.faults c.next_caller.new.self =
    c.in-Ok-true.ensures.cause.later in
    let asks = asks_so true (g.L.Line.callers c.loop.line)
    (g.L.Line.callers c.next_caller.new.self)
    (rw (← c.in-Ok-true.field-0-test) c.in-Ok-true.ensures.waits) c.in-Ok-true.ensures.ok in
    let next = conversed (g.T.Clock.may_be c.args.clock.now) c.args.tokens.now
    (g.C.Clerk.told c.loop.clerk) (g.C.Clerk.told c.serve_caller-ended.new.clerk)
    (g.L.Line.callers c.loop.line) (g.L.Line.callers c.next_caller.new.self)
    (g.L.Line.callers c.serve_caller-ended.new.line) c.next_turn.new.buffer
    c.serve_caller-ended.new.buffer c.serve_caller-ended.result c.next_turn.ensures asks
    served.served in
    record {
      so_far = goes_on (g.T.Clock.may_be c.args.clock.now) c.args.tokens.now
          (g.C.Clerk.told c.args.clerk.now) (g.C.Clerk.told c.loop.clerk)
          (g.C.Clerk.told c.serve_caller-ended.new.clerk) (g.L.Line.callers c.args.line.now)
          (g.L.Line.callers c.loop.line) (g.L.Line.callers c.serve_caller-ended.new.line)
          c.loop.end c.with-end.result c.serve_caller-ended.result i.so_far next
          c.with-end.ensures;
      goes = goes_on_then _ _ _ i.goes served.goes;
      later = omega (arith, i.later, asked, served.later);
      cause = λ e. rose_by (g.L.Line.faults c.args.line.now) (g.L.Line.faults c.loop.line)
          (g.L.Line.faults c.next_caller.new.self)
          (g.L.Line.faults c.serve_caller-ended.new.line) c.loop.end
          c.serve_caller-ended.result c.with-end.result i.later asked served.later i.cause
          served.cause c.with-end.ensures e;
    }

pub returns-in-Ok-false-clause-served : goal.returns-in-Ok-false-clause-served
returns-in-Ok-false-clause-served g c =
    ends (g.T.Clock.may_be c.args.clock.now) c.args.tokens.now _ _ _ _ _ c.loop.end c.loop.end
    NoneLeft c.loop.invariant.so_far
    (asks_so false (g.L.Line.callers c.loop.line) (g.L.Line.callers c.next_caller.new.self)
    (rw (← c.in-Ok-false.field-0-test) c.in-Ok-false.ensures.waits) c.in-Ok-false.ensures.ok) refl

pub returns-in-Err-clause-served : goal.returns-in-Err-clause-served
returns-in-Err-clause-served g c =
    ends (g.T.Clock.may_be c.args.clock.now) c.args.tokens.now _ _ _ _ _ c.loop.end _
    AskingFailed c.loop.invariant.so_far c.in-Err.ensures.err refl
