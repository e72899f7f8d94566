use Rattle.std.proofs.Common.{false, ◌+◌, ◌*◌, set, subst, ap, ◌∙◌, refl, arith}
use Rattle.rb_marks.specs.Results.{steps_result}
use Rattle.rb_marks.specs.View.{branches_of}
use Rattle.rb_marks.specs.Units.{outline, unit_steps}
use Rattle.rb_flow.specs.declared.kept.FlowCache.{FlowCache}
use Rattle.rb_flow.specs.declared.unit_state.UnitState.{UnitState}
use Rattle.rb_flow.specs.Cursors.{HasPassed}
use Rattle.rb_flow.specs.Leaves.{result_in}
use Rattle.rb_flow.specs.Kept.{unit_ended, row_for}
use Rattle.rb_flow.proofs.Putting.{stands_at, stands_node, stands_unit, may_stand, was_put}
use Rattle.rb_flow.proofs.kept.FlowCache.finish.Goals as goal

pub put-requires-clause-node : goal.put-requires-clause-node
put-requires-clause-node c =
    let node = stands_node (outline c.args.plan.now) c.args.self.now c.args.leaf
    c.group_of-group.result c.state_at-state.result c.requires.ready
    (stands_at (outline c.args.plan.now) c.args.self.now c.args.leaf c.group_of-group.result
    c.state_at-state.result c.group_of-group.ensures c.requires.group c.requires.node
    c.state_at-state.ensures) in
    omega (arith, node, c.requires.node)

pub put-requires-clause-stands : goal.put-requires-clause-stands
put-requires-clause-stands c =
    may_stand (outline c.args.plan.now) c.args.self.now c.args.leaf c.group_of-group.result
    c.state_at-state.result (unit_ended c.result_of-outcome.result c.state_at-state.result) c.requires.ready
    (stands_at (outline c.args.plan.now) c.args.self.now c.args.leaf c.group_of-group.result
    c.state_at-state.result c.group_of-group.ensures c.requires.group c.requires.node
    c.state_at-state.ensures) refl refl refl

pub returns : goal.returns
returns c =
    let p = outline c.args.plan.now in
    let old = c.args.self.now in
    let new : FlowCache = record old {
      tally = c.put.new.self;
      leaves = c.settle.new.self;
      cursors = c.put_cursor.new.cursors;
    } in
    let change : UnitState → UnitState =
    λ s. unit_ended (steps_result (result_in (row_for new c.args.leaf.node)) p.keepgoing false
    (branches_of (unit_steps p s.unit))) s in
    record {
      puts = was_put p c.args.leaf old new c.group_of-group.result c.state_at-state.result
          (unit_ended c.result_of-outcome.result c.state_at-state.result) change c.requires.ready
          (stands_at p old c.args.leaf c.group_of-group.result c.state_at-state.result
          c.group_of-group.ensures c.requires.group c.requires.node c.state_at-state.ensures)
          (ap (λ r. unit_ended r c.state_at-state.result) (c.result_of-outcome.ensures
          ∙ ap (λ row. steps_result (result_in row) p.keepgoing false
          (branches_of (unit_steps p c.state_at-state.result.unit))) c.row-row.ensures))
          refl c.put.ensures.is c.put.ensures.states refl refl;
      slots = c.settle.ensures.slots;
      results = c.settle.ensures.results;
      cursors = λ u at.
          let stands = stands_at p old c.args.leaf c.group_of-group.result c.state_at-state.result
          c.group_of-group.ensures c.requires.group c.requires.node c.state_at-state.ensures in
          let unit = stands_unit p old c.args.leaf c.group_of-group.result c.state_at-state.result
          c.requires.ready stands u at in (
            c.advance-cursor.result,
            c.put_cursor.ensures
                ∙ ap (λ g. set old.cursors.items (g * old.tally.nodes + c.args.leaf.node)
                c.advance-cursor.result) c.group_of-group.ensures,
            subst (λ row. HasPassed p (result_in row) u c.advance-cursor.result) c.row-row.ensures
                (subst (λ v. HasPassed p (result_in c.row-row.result.now) v
                c.advance-cursor.result) unit c.advance-cursor.ensures),
          );
    }
