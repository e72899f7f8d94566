use Rattle.std.proofs.Common.{◌≡◌, ◌∙◌, IfOk, ap, codes, map, subst}
use Rattle.rb_plan.specs.Access.{decision_on, node_resource, run_of_each}
use Rattle.rb_plan.proofs.NodeRuns.{are_nodes, run_maps}
use Rattle.rb_plan.proofs.access.Access.node_runs_by.Goals as goal

pub returns : goal.returns
returns c =
    let access = c.args.self.now in
    let nodes = map (λ node. node.now) c.args.nodes.now in
    let same : c.self.inside.policies.now ≡ access.policies = ap (λ a. a.policies) c.self.view_is in
    let reads : c.in_ok-reads.reads.items
    ≡ map (decision_on access (codes "read")) (map node_resource nodes) =
    rw (c.as_slice.ensures.value, c.in_ok-resources.ensures, same) at
    (c.in_ok-reads.ensures access.caller access.here (codes "node") (rw same c.requires)
    (rw (c.as_slice.ensures.value, c.in_ok-resources.ensures) (are_nodes nodes))) in
    let runs : c.in_ok-runs.runs.items
    ≡ map (decision_on access (codes "run")) (map node_resource nodes) =
    rw (c.as_slice-2.ensures.value, c.in_ok-resources.ensures, same) at
    (c.in_ok-runs.ensures access.caller access.here (codes "node") (rw same c.requires)
    (rw (c.as_slice-2.ensures.value, c.in_ok-resources.ensures) (are_nodes nodes))) in
    subst (λ told. IfOk c.run_of_each.result (λ decisions. decisions.items ≡ told))
    (ap (λ rs. run_of_each rs c.as_slice-4.result.now) (c.as_slice-3.ensures.value ∙ reads)
    ∙ ap (run_of_each _) (c.as_slice-4.ensures.value ∙ runs) ∙ run_maps access nodes)
    c.run_of_each.ensures
