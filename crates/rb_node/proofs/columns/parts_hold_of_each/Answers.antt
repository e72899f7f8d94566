use Rattle.std.proofs.Common.{◌∙◌, [], map, true, refl}
use Rattle.std.specs.List.{list_any}
use Rattle.rb_text.specs.Values.{value_is}
use Rattle.rb_text.proofs.Marking.{all_more}
use Rattle.rb_node.specs.Columns.{parts_hold}
use Rattle.rb_node.proofs.Marking.{same_marks}
use Rattle.rb_node.proofs.columns.parts_hold_of_each.Goals as goal

pub loop-part-init : goal.loop-part-init
loop-part-init c =
    c.in_ok-marks.ensures
    ∙ same_marks (parts_hold []) (λ texts. texts.now) true (λ _. refl) c.args.lists.now

pub loop-part-preserved : goal.loop-part-preserved
loop-part-preserved c =
    all_more (λ value texts. list_any (value_is value) texts) c.args.parts.now
    (map (λ texts. texts.now) c.args.lists.now) c.loop-part.part-index c.part-item.result _ _ _
    c.loop-part-test.true c.part-item.is c.loop-part.invariant c.in_ok-others.ensures
    (rw (c.as_slice.ensures.value, c.as_slice-in-loop-part.ensures.value) at c.in_ok-marks-2.ensures)
