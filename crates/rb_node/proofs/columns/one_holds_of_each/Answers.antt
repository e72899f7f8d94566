use Rattle.std.proofs.Common.{◌∙◌, [], map, false, refl}
use Rattle.rb_text.proofs.Marking.{any_more}
use Rattle.rb_node.specs.Columns.{parts_hold, one_holds}
use Rattle.rb_node.proofs.Marking.{same_marks}
use Rattle.rb_node.proofs.columns.one_holds_of_each.Goals as goal

pub loop-parts-init : goal.loop-parts-init
loop-parts-init c =
    c.in_ok-marks.ensures
    ∙ same_marks (one_holds []) (λ texts. texts.now) false (λ _. refl) c.args.lists.now

pub loop-parts-preserved : goal.loop-parts-preserved
loop-parts-preserved c =
    any_more (λ parts texts. parts_hold parts texts) c.args.alternatives.now
    (map (λ texts. texts.now) c.args.lists.now) c.loop-parts.parts-index c.parts-item.result _ _ _
    c.loop-parts-test.true c.parts-item.is c.loop-parts.invariant
    (rw c.as_slice.ensures at c.in_ok-others.ensures)
    (rw (c.as_slice-in-loop-parts.ensures.value, c.as_slice-in-loop-parts-2.ensures.value)
    at c.in_ok-marks-2.ensures)
