use Rattle.std.proofs.Common.{◌≡◌, ◌∙◌, sym, subst, IfOk}
use Rattle.rb_node.proofs.Marking.{included_some}
use Rattle.rb_node.proofs.columns.included_of_each.Goals as goal

pub returns : goal.returns
returns c =
    subst (λ told. IfOk c.includes_hold_of_each.result (λ marks. marks.items ≡ told))
    (included_some c.args.clauses.now c.args.nodes.now
    (sym c.has_no_include.ensures ∙ c.if-has_no_include.false)) c.includes_hold_of_each.ensures
