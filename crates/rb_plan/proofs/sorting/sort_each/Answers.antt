use Rattle.std.proofs.Common.{rules}
use Rattle.rb_node.specs.declared.node.Node.{Node}
use Rattle.rb_plan.specs.Access.{node_run}
use Rattle.rb_plan.proofs.NodeRuns.{decision_at, sorted_next}
use Rattle.rb_plan.proofs.sorting.sort_each.Goals as goal

pub loop-i-preserved : goal.loop-i-preserved
loop-i-preserved c =
    let decide = node_run c.args.access.now in
    let told = decision_at (λ node. node.now) decide c.args.picked.now
    c.in_ok-decisions.decisions.items c.loop-i.i c.index-picked-i.result c.index.result.now
    c.loop-i-test.true c.index-picked-i.is c.in_ok-decisions.ensures (search rules) in
    sorted_next (λ node. node.now) decide c.args.picked.now c.loop-i.i c.index-picked-i.result
    c.loop-i.sorted c.sort_node.new.sorted c.loop-i-test.true c.index-picked-i.is
    c.loop-i.invariant (c.in_ok-sort_node.ensures.runnable decide told)
    (c.in_ok-sort_node.ensures.dropped decide told)
