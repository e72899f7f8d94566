use Rattle.std.proofs.Common.{◌≡◌, map, take}
use Rattle.rb_node.specs.Selection.{shown}
use Rattle.rb_node.proofs.columns.shown_by_each.Given as goal

-- the lists are those of the nodes so far
abbrev pub invariant-loop-node : goal.invariant-loop-node
invariant-loop-node l = map (λ texts. texts.now) l.lists.items
    ≡ map (λ node. shown node l.attr) (take l.node-index l.nodes)
