use Rattle.std.proofs.Common.{◌≡◌, ◌≤◌}
use Rattle.rb_causes.specs.Causes.{Rose}
use Rattle.rb_door.specs.Standing.{GoesOn}
use Rattle.rb_serve.specs.declared.door_end.DoorEnd.TheVariants as end
use Rattle.rb_serve.proofs.Conversing.{SoFar}
use Rattle.rb_serve.proofs.doors.serve_callers.Given as goal

-- the callers so far left the clerk's rights as they were
abbrev pub invariant-loop : goal.invariant-loop
invariant-loop g l = record {
  so_far : SoFar (g.T.Clock.may_be l.clock) l.tokens
      (g.C.Clerk.told l.fn.clerk) (g.C.Clerk.told l.clerk)
      (g.L.Line.callers l.fn.line) (g.L.Line.callers l.line) l.end;
  goes : GoesOn (g.C.Clerk.told l.fn.clerk) (g.C.Clerk.told l.clerk);
  later : g.L.Line.faults l.fn.line ≤ g.L.Line.faults l.line;
  cause : l.end ≡ end.Failed → Rose (g.L.Line.faults l.fn.line) (g.L.Line.faults l.line);
}
