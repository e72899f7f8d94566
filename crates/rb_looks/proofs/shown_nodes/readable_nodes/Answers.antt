use Rattle.std.proofs.Common.{◌≡◌, ◌∙◌, IfOk, ap, codes, subst}
use Rattle.rb_plan.specs.Access.{node_decision}
use Rattle.rb_looks.specs.Looking.{permitted}
use Rattle.rb_looks.proofs.Permitted.{permitted_filters}
use Rattle.rb_looks.proofs.shown_nodes.readable_nodes.Goals as goal

pub returns : goal.returns
returns c =
    let nodes = c.args.nodes.now in
    subst (λ told. IfOk c.permitted_nodes.result (λ some. some ≡ told))
    (ap (λ ds. permitted ds nodes) (c.as_slice.ensures.value ∙ c.in_ok-decisions.ensures)
    ∙ permitted_filters (node_decision c.args.access.now (codes "read")) nodes)
    c.permitted_nodes.ensures
