use Rattle.std.proofs.Common.{◌≡◌, filter, map, take}
use Rattle.rb_node.specs.Filters.{selects}
use Rattle.rb_node.proofs.filter.Filter.chosen.Given as goal

-- the selected of the nodes so far are chosen
abbrev pub invariant-loop-i : goal.invariant-loop-i
invariant-loop-i l = map (λ node. node.now) l.chosen.items
    ≡ filter (selects l.self l.exclude_first) (take l.i l.nodes)
