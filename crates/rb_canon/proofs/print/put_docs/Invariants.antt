use Rattle.std.proofs.Common.{drop}
use Rattle.rb_canon.specs.Puts.{docs_piece}
use Rattle.rb_canon.specs.Views.{canon_trees}
use Rattle.rb_canon.proofs.SoFar.{SoFar}
use Rattle.rb_canon.proofs.Pieces.{docs_from}
use Rattle.rb_canon.proofs.print.put_docs.Given as goal

abbrev pub invariant-loop-doc : goal.invariant-loop-doc
invariant-loop-doc l =
    SoFar (docs_piece (canon_trees l.fn.docs)) (docs_from l.first (canon_trees (drop l.doc-index l.docs)))
    l.fn.out.items l.out.items
