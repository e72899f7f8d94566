use Rattle.std.proofs.Common.{◌≡◌}
use Rattle.std.specs.Vec.Iter.{into_iter_items}
use Rattle.rb_session.proofs.Unreads.{HadSoFar}
use Rattle.rb_session.proofs.fetching.fetch_documents.Given as goal

-- the documents so far were had without a fault, and nothing was told
abbrev pub invariant-loop-place : goal.invariant-loop-place
invariant-loop-place g l = record {
  so_far : HadSoFar (g.F.Shelf.files l.fn.shelf) l.fn.places l.documents.items
      (into_iter_items l.place-iterator);
  silent : g.O.Sink.shown l.out ≡ g.O.Sink.shown l.fn.out;
  files : g.F.Shelf.files l.shelf ≡ g.F.Shelf.files l.fn.shelf;
  faults : g.F.Shelf.faults l.shelf ≡ g.F.Shelf.faults l.fn.shelf;
}
