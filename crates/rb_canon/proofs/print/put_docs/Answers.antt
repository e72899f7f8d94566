use Rattle.std.proofs.Common.{List, ℕ, subst}
use Rattle.std.proofs.lemmas.Result.{err_from_is_err_and}
use Rattle.rb_canon.specs.Puts.{docs_piece}
use Rattle.rb_canon.specs.Views.{canon_trees}
use Rattle.rb_canon.proofs.SoFar.{SoFar, so_far_none}
use Rattle.rb_canon.proofs.Pieces.{docs_whole}
use Rattle.rb_canon.proofs.Turns.{docs_turn, docs_stop_value}
use Rattle.rb_canon.proofs.print.put_docs.Goals as goal

pub loop-doc-init : goal.loop-doc-init
loop-doc-init c =
    let whole = docs_piece (canon_trees c.args.docs.now) in
    let before = c.args.out.now.items in
    subst (λ (rest : List ℕ). SoFar whole rest before before) (docs_whole (canon_trees c.args.docs.now)) (so_far_none whole before)

pub loop-doc-preserved : goal.loop-doc-preserved
loop-doc-preserved c =
    let l = c.loop-doc in
    docs_turn (docs_piece (canon_trees c.args.docs.now)) c.args.out.now.items l.out.items c.put_mark.new.out.items c.put_value.new.out.items l.first l.doc-index c.args.docs.now c.doc-item.result
    c.in_ok-put_mark.field-0 c.in_ok-put_value.field-0 c.loop-doc-test.true c.doc-item.is l.invariant c.in_ok-put_mark.ensures c.in_ok-put_value.ensures

pub returns-in_err-put_value : goal.returns-in_err-put_value
returns-in_err-put_value c =
    let l = c.loop-doc in
    let p = err_from_is_err_and c.from_residual-in_err-put_value.result c.from_residual-in_err-put_value.ensures.1 in
    rw (p.1, p.2) (docs_stop_value (docs_piece (canon_trees c.args.docs.now)) c.args.out.now.items l.out.items c.put_mark.new.out.items c.put_value.new.out.items l.first l.doc-index c.args.docs.now c.doc-item.result
    c.in_ok-put_mark.field-0 c.in_err-put_value.field-0.0 c.loop-doc-test.true c.doc-item.is l.invariant c.in_ok-put_mark.ensures c.in_err-put_value.ensures)
