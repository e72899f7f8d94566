use Rattle.std.proofs.Common.{◌≡◌, ◌≢◌, ◌≤◌}
use Rattle.rb_causes.specs.Causes.{Rose}
use Rattle.rb_door.specs.Standing.{GoesOn}
use Rattle.rb_door.proofs.Counting.{left_behind}
use Rattle.rb_api.specs.declared.ended.Ended.TheVariants.{LineFault, More}
use Rattle.rb_wire.specs.Hearing.{nothing_pending}
use Rattle.rb_session.specs.Visits.{ServesStay, Stay, scene}
use Rattle.rb_session.proofs.Visiting.{StaySoFar}
use Rattle.rb_session.proofs.serving.serve_stay.Given as goal

-- The handlings so far, behind each of which more might come; or all of them. They left the clerk's
-- rights as they were.
abbrev pub invariant-loop-ended : goal.invariant-loop-ended
invariant-loop-ended g l = record {
  more : l.ended ≡ More → StaySoFar (g.T.Clock.may_be l.clock) l.tokens l.limit
      (scene (g.C.Clerk.told l.fn.clerk) (g.S.Spawner.shown l.fn.spawner)
      (g.L.Line.callers l.fn.line) nothing_pending)
      (scene (g.C.Clerk.told l.clerk) (g.S.Spawner.shown l.spawner)
      (g.L.Line.callers l.line) l.buffer);
  last : l.ended ≢ More → (v : Stay) × ServesStay (g.T.Clock.may_be l.clock) l.tokens l.limit
      (scene (g.C.Clerk.told l.fn.clerk) (g.S.Spawner.shown l.fn.spawner)
      (g.L.Line.callers l.fn.line) nothing_pending)
      (scene (g.C.Clerk.told l.clerk) (g.S.Spawner.shown l.spawner)
      (g.L.Line.callers l.line) l.buffer) v l.ended;
  goes : GoesOn (g.C.Clerk.told l.fn.clerk) (g.C.Clerk.told l.clerk);
  later : g.L.Line.faults l.fn.line ≤ g.L.Line.faults l.line;
  cause : l.ended ≡ LineFault → Rose (g.L.Line.faults l.fn.line) (g.L.Line.faults l.line);
  spawner : (g.S.Spawner.shown l.fn.spawner).faults ≤ (g.S.Spawner.shown l.spawner).faults;
}

abbrev pub decreases-loop-ended : goal.decreases-loop-ended
decreases-loop-ended g l = left_behind l.ended l.buffer.given
