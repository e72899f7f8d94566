use Rattle.std.proofs.Common.{◌≡◌, map, take}
use Rattle.rb_node.specs.Columns.{one_holds}
use Rattle.rb_node.proofs.columns.one_holds_of_each.Given as goal

-- the marks are those of the alternatives so far
abbrev pub invariant-loop-parts : goal.invariant-loop-parts
invariant-loop-parts l = l.marks.items
    ≡ map (one_holds (take l.parts-index l.alternatives)) (map (λ texts. texts.now) l.lists)
