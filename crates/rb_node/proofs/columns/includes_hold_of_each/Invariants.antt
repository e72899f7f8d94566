use Rattle.std.proofs.Common.{◌≡◌, map, take}
use Rattle.std.specs.List.{list_all}
use Rattle.rb_node.specs.Columns.{is_included}
use Rattle.rb_node.proofs.columns.includes_hold_of_each.Given as goal

-- the marks are those of the clauses so far
abbrev pub invariant-loop-clause : goal.invariant-loop-clause
invariant-loop-clause l = l.marks.items
    ≡ map (λ node. list_all (is_included node) (take l.clause-index l.clauses)) l.nodes
