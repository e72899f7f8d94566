use Rattle.std.proofs.Common.{refl, arith}
use Rattle.rb_marks.specs.Units.{outline}
use Rattle.rb_flow.specs.Kept.{unit_begun}
use Rattle.rb_flow.proofs.Putting.{stands_at, stands_node, may_stand, was_put}
use Rattle.rb_flow.proofs.kept.FlowCache.begin.Goals as goal

pub put-requires-clause-node : goal.put-requires-clause-node
put-requires-clause-node c =
    let node = stands_node (outline c.args.plan.now) c.args.self.now c.args.leaf
    c.group_of-group.result c.state_at-state.result c.requires.ready
    (stands_at (outline c.args.plan.now) c.args.self.now c.args.leaf c.group_of-group.result
    c.state_at-state.result c.group_of-group.ensures c.requires.group c.requires.node
    c.state_at-state.ensures) in
    omega (arith, node, c.requires.node)

pub put-requires-clause-stands : goal.put-requires-clause-stands
put-requires-clause-stands c =
    may_stand (outline c.args.plan.now) c.args.self.now c.args.leaf c.group_of-group.result
    c.state_at-state.result (unit_begun c.state_at-state.result) c.requires.ready
    (stands_at (outline c.args.plan.now) c.args.self.now c.args.leaf c.group_of-group.result
    c.state_at-state.result c.group_of-group.ensures c.requires.group c.requires.node
    c.state_at-state.ensures) refl refl refl

pub returns : goal.returns
returns c = record {
  puts = was_put (outline c.args.plan.now) c.args.leaf c.args.self.now
      (record c.args.self.now { tally = c.put.new.self }) c.group_of-group.result
      c.state_at-state.result (unit_begun c.state_at-state.result) unit_begun c.requires.ready
      (stands_at (outline c.args.plan.now) c.args.self.now c.args.leaf c.group_of-group.result
      c.state_at-state.result c.group_of-group.ensures c.requires.group c.requires.node
      c.state_at-state.ensures) refl refl c.put.ensures.is c.put.ensures.states refl refl;
  leaves = refl;
  cursors = refl;
}
