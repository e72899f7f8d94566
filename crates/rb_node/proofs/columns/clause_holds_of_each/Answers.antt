use Rattle.std.proofs.Common.{◌≡◌, ◌∙◌, ap, subst, IfOk, map}
use Rattle.rb_node.specs.Columns.{one_holds}
use Rattle.rb_node.specs.Selection.{shown}
use Rattle.rb_node.proofs.Marking.{shown_holds}
use Rattle.rb_node.proofs.columns.clause_holds_of_each.Goals as goal

pub returns : goal.returns
returns c =
    let clause = c.args.clause.now in let nodes = c.args.nodes.now in
    subst (λ told. IfOk c.one_holds_of_each.result (λ marks. marks.items ≡ told))
    (ap (λ alternatives. map (one_holds alternatives)
    (map (λ texts. texts.now) c.as_slice-2.result.now)) c.as_slice.ensures
    ∙ ap (map (one_holds clause.alternatives))
    (ap (map (λ texts. texts.now)) c.as_slice-2.ensures.value ∙ c.in_ok-lists.ensures
    ∙ ap (λ attr. map (λ node. shown node attr) nodes) c.as_str.ensures)
    ∙ shown_holds clause nodes) c.one_holds_of_each.ensures
