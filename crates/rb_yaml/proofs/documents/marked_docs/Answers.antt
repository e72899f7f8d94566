use Rattle.std.proofs.Common.{◌+◌, map, drop, ap, sym, ◌∙◌}
use Rattle.std.proofs.lemmas.Result.{err_from_is_err_and}
use Rattle.rb_yaml.specs.PartsView.{part_view}
use Rattle.rb_yaml.specs.Tree.{docs_tree}
use Rattle.rb_yaml.specs.Documents.{with_docs, marked_docs}
use Rattle.rb_yaml.specs.DocsView.{doc_view}
use Rattle.rb_yaml.proofs.DocFacts.{docs_more, docs_stop}
use Rattle.rb_yaml.proofs.NodeFacts.{part_at}
use Rattle.rb_yaml.proofs.documents.marked_docs.Goals as goal

pub returns-in_err-root : goal.returns-in_err-root
returns-in_err-root c =
    let p = err_from_is_err_and c.from_residual.result c.from_residual.ensures.1 in
    let parts = c.args.parts.now in
    let here = part_at part_view parts c.loop-part.part-index c.part-item.result c.loop-part-test.true c.part-item.is in
    let same = sym (ap (λ ps. with_docs (docs_tree c.loop-part.docs.items) (marked_docs ps)) here) ∙ c.loop-part.invariant in
    rw (p.1, p.2) (docs_stop c.in_err-root.field-0.0 (docs_tree c.loop-part.docs.items) (part_view c.part-item.result) (drop (c.loop-part.part-index + 1) (map part_view parts))
    (with_docs (docs_tree c.args.docs.items) (marked_docs (map part_view parts))) c.in_err-root.ensures same)

pub loop-part-preserved : goal.loop-part-preserved
loop-part-preserved c =
    let parts = c.args.parts.now in
    let here = part_at part_view parts c.loop-part.part-index c.part-item.result c.loop-part-test.true c.part-item.is in
    let same = sym (ap (λ ps. with_docs (docs_tree c.loop-part.docs.items) (marked_docs ps)) here) ∙ c.loop-part.invariant in
    docs_more (docs_tree c.loop-part.docs.items) (docs_tree c.push_doc.new.docs.items) (doc_view c.in_ok-root.root) (part_view c.part-item.result) (drop (c.loop-part.part-index + 1) (map part_view parts))
    (with_docs (docs_tree c.args.docs.items) (marked_docs (map part_view parts))) c.in_ok-root.ensures c.in_ok-push_doc.ensures same
