use Rattle.std.proofs.Common.{◌≡◌}
use Rattle.std.specs.Vec.Iter.{into_iter_items}
use Rattle.rb_door.specs.Standing.{GoesOn}
use Rattle.rb_session.proofs.ImportRuns.{TakenSoFar}
use Rattle.rb_session.proofs.importing.import_all.Given as goal

-- the imports so far were taken and left the clerk's rights as they were, and nothing was told
abbrev pub invariant-loop-document : goal.invariant-loop-document
invariant-loop-document g l = record {
  so_far : TakenSoFar (g.T.Clock.may_be l.clock) l.owner l.fn.documents.items
      (into_iter_items l.document-iterator) (g.C.Clerk.told l.fn.clerk)
      (g.C.Clerk.told l.clerk);
  goes : GoesOn (g.C.Clerk.told l.fn.clerk) (g.C.Clerk.told l.clerk);
  silent : g.O.Sink.shown l.out ≡ g.O.Sink.shown l.fn.out;
}
