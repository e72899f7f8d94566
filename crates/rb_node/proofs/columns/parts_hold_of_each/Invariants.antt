use Rattle.std.proofs.Common.{◌≡◌, map, take}
use Rattle.rb_node.specs.Columns.{parts_hold}
use Rattle.rb_node.proofs.columns.parts_hold_of_each.Given as goal

-- the marks are those of the parts so far
abbrev pub invariant-loop-part : goal.invariant-loop-part
invariant-loop-part l = l.marks.items
    ≡ map (parts_hold (take l.part-index l.parts)) (map (λ texts. texts.now) l.lists)
