use Rattle.std.proofs.Common.{◌≡◌, ◌≢◌, ◌≤◌, Option}
use Rattle.rb_causes.specs.Callers.{Callers}
use Rattle.rb_causes.specs.Causes.{Rose}
use Rattle.rb_log.specs.Told.{Told}
use Rattle.rb_wire.specs.Hearing.{Pending}
use Rattle.rb_api.specs.declared.ended.Ended.TheVariants.{LineFault, More}
use Rattle.rb_door.specs.Serving.{DoorSight, ServesCaller, ServesSoFar}
use Rattle.rb_door.specs.Standing.{GoesOn}
use Rattle.rb_door.proofs.Counting.{left_behind}
use Rattle.rb_door.proofs.serving.serve_caller.Given as goal

abbrev sight : Told → Option Callers → Pending → DoorSight
sight clerk callers pending =
    record { clerk = clerk; line = record { callers = callers; pending = pending } }

-- the exchanges so far, behind each of which more might come; or all of them
abbrev pub invariant-loop-ended : goal.invariant-loop-ended
invariant-loop-ended g l = record {
  more : l.ended ≡ More → ServesSoFar (g.T.Clock.may_be l.clock) l.tokens
      (sight (g.C.Clerk.told l.fn.clerk) (g.L.Line.callers l.fn.line) l.fn.buffer)
      (sight (g.C.Clerk.told l.clerk) (g.L.Line.callers l.line) l.buffer);
  last : l.ended ≢ More → ServesCaller (g.T.Clock.may_be l.clock) l.tokens
      (sight (g.C.Clerk.told l.fn.clerk) (g.L.Line.callers l.fn.line) l.fn.buffer)
      (sight (g.C.Clerk.told l.clerk) (g.L.Line.callers l.line) l.buffer) l.ended;
  goes : GoesOn (g.C.Clerk.told l.fn.clerk) (g.C.Clerk.told l.clerk);
  later : g.L.Line.faults l.fn.line ≤ g.L.Line.faults l.line;
  cause : l.ended ≡ LineFault → Rose (g.L.Line.faults l.fn.line) (g.L.Line.faults l.line);
}

abbrev pub decreases-loop-ended : goal.decreases-loop-ended
decreases-loop-ended g l = left_behind l.ended l.buffer.given
