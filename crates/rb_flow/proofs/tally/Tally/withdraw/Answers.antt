use Rattle.std.proofs.Common.{arith}
use Rattle.rb_flow.proofs.Withdrawing.{read_node, withdrawn_start, withdrawn_stands, withdrawn_more, withdrawn_all}
use Rattle.rb_flow.proofs.tally.Tally.withdraw.Goals as goal

pub loop-group-init : goal.loop-group-init
loop-group-init c = withdrawn_start c.args.self.now c.requires.is c.args.node

pub put-requires-clause-node : goal.put-requires-clause-node
put-requires-clause-node c =
    let t = c.args.self.now in
    let so = c.loop-group.invariant in
    let node = read_node c.requires.of.0 t c.loop-group.self c.loop-group.group c.args.node
    c.state_at-state.result c.requires.is c.requires.of.1
    (omega (arith, c.loop-group-test.true, c.len-group-end.ensures, t.groups.ok.0))
    c.requires.node so c.state_at-state.ensures in
    omega (arith, node, so.states.nodes, c.requires.node)

pub put-requires-clause-stands : goal.put-requires-clause-stands
put-requires-clause-stands c =
    let t = c.args.self.now in
    withdrawn_stands c.requires.of.0 t c.loop-group.self c.loop-group.group c.args.node
    c.state_at-state.result c.requires.is c.requires.of.1
    (omega (arith, c.loop-group-test.true, c.len-group-end.ensures, t.groups.ok.0))
    c.requires.node c.loop-group.invariant c.state_at-state.ensures

pub loop-group-preserved : goal.loop-group-preserved
loop-group-preserved c =
    let t = c.args.self.now in
    withdrawn_more c.requires.of.0 t c.loop-group.self c.put.new.self c.loop-group.group
    c.args.node c.state_at-state.result c.requires.is c.requires.of.1
    (omega (arith, c.loop-group-test.true, c.len-group-end.ensures, t.groups.ok.0))
    c.requires.node c.loop-group.invariant c.state_at-state.ensures c.put.ensures.is
    c.put.ensures.states

pub returns-clause-states : goal.returns-clause-states
returns-clause-states c =
    let t = c.args.self.now in
    withdrawn_all c.requires.of.0 t c.loop-group.self c.requires.of.1 c.loop-group.group
    c.args.node c.loop-group.invariant
    (omega (arith, c.loop-group-test.false, c.len-group-end.ensures, t.groups.ok.0))
