use Rattle.std.proofs.Common.{◌≡◌, drop, map}
use Rattle.rb_yaml.specs.PartsView.{part_view}
use Rattle.rb_yaml.specs.Tree.{docs_tree}
use Rattle.rb_yaml.specs.Documents.{with_docs, marked_docs}
use Rattle.rb_yaml.proofs.documents.marked_docs.Given as goal

-- the documents so far and those that are left are all
abbrev pub invariant-loop-part : goal.invariant-loop-part
invariant-loop-part l =
    with_docs (docs_tree l.docs.items) (marked_docs (drop l.part-index (map part_view l.parts)))
    ≡ with_docs (docs_tree l.fn.docs.items) (marked_docs (map part_view l.parts))
