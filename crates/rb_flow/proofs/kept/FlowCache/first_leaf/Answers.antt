use Rattle.std.proofs.Common.{sym, ◌∙◌, subst, arith}
use Rattle.rb_marks.specs.Units.{outline}
use Rattle.rb_flow.specs.Cursors.{HasPassed}
use Rattle.rb_flow.specs.Kept.{unit_place}
use Rattle.rb_flow.specs.Leaves.{result_in}
use Rattle.rb_flow.proofs.Startable.{chosen_node, chosen_unit}
use Rattle.rb_flow.proofs.kept.FlowCache.first_leaf.Goals as goal

pub row-row-requires-clause-node : goal.row-row-requires-clause-node
row-row-requires-clause-node c =
    chosen_node (outline c.args.plan.now) c.args.self.now c.in_ok-unit.unit c.requires
    (sym c.first_unit.ensures ∙ c.in_ok-unit.was)

pub cursor_of-requires : goal.cursor_of-requires
cursor_of-requires c =
    let at = chosen_unit (outline c.args.plan.now) c.args.self.now c.in_ok-unit.unit c.requires
    (sym c.first_unit.ensures ∙ c.in_ok-unit.was) in
    omega (arith, at.within, c.requires.cursors.size)

pub next_slot-requires : goal.next_slot-requires
next_slot-requires c =
    let p = outline c.args.plan.now in
    let k = c.args.self.now in
    let u = c.in_ok-unit.unit in
    let at = chosen_unit p k u c.requires (sym c.first_unit.ensures ∙ c.in_ok-unit.was) in
    subst (λ row. HasPassed p (result_in row) u c.cursor_of.result) (sym c.row-row.ensures)
    (c.requires.cursors.each (unit_place k.tally.nodes u) u c.cursor_of.result at.within at.is
    (sym c.cursor_of.ensures))
