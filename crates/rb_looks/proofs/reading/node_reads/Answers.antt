use Rattle.std.proofs.Common.{◌≡◌, ◌∙◌, IfOk, ap, codes, map, sym, subst}
use Rattle.std.specs.List.{All}
use Rattle.rb_plan.specs.Access.{Access, decision_on, node_decision}
use Rattle.rb_looks.proofs.Readings.{are_nodes, node_reads}
use Rattle.rb_looks.proofs.reading.node_reads.Goals as goal

pub returns : goal.returns
returns c =
    let asked = c.access.inside in
    let nodes = c.args.nodes.now in
    let access : Access = record {
      policies = asked.policies.now;
      caller = asked.caller.now;
      here = asked.context.now;
    } in
    let resources = c.as_slice.ensures.value ∙ c.in_ok-resources.ensures in
    subst (λ access. IfOk c.decide_each.result (λ decisions.
    decisions.items ≡ map (node_decision access (codes "read")) nodes)) c.access.view_is
    (subst (λ told. IfOk c.decide_each.result (λ decisions. decisions.items ≡ told))
    (ap (map (decision_on access (codes "read"))) resources ∙ node_reads access nodes)
    (c.decide_each.ensures asked.caller.now asked.context.now (codes "node")
    c.in_ok-index.ensures
    (subst (All (λ resource. resource.type_name ≡ codes "node")) (sym resources)
    (are_nodes nodes))))
