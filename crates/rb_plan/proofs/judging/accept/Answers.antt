use Rattle.std.proofs.Common.{rules, length, ap}
use Rattle.rb_plan.proofs.Verdicts.{targets_few}
use Rattle.rb_plan.proofs.judging.accept.Goals as goal

pub check_leaves-requires-clause-nodes : goal.check_leaves-requires-clause-nodes
check_leaves-requires-clause-nodes c =
    let few = targets_few c.args.held.now.job c.args.draw c.args.sorted.runnable.items c.requires.nodes in
    let many = ap length c.in_ok-nodes.ensures in
    search (rules, few, many)

pub plan_of-requires-clause-nodes : goal.plan_of-requires-clause-nodes
plan_of-requires-clause-nodes c =
    let few = targets_few c.args.held.now.job c.args.draw c.args.sorted.runnable.items c.requires.nodes in
    let many = ap length c.in_ok-nodes.ensures in
    search (rules, few, many)
