use Rattle.std.proofs.Common.{◌≡◌, List, drop, find}
use Rattle.rb_causes.specs.declared.row.Row.{Row}
use Rattle.rb_log.specs.Executions.{executions}
use Rattle.rb_tables.specs.Tables.{IsTabled}
use Rattle.rb_desk.specs.Following.{has_numbers}
use Rattle.rb_desk.proofs.following.open_leaf.Given as goal

-- the first of the leaves that are left is the first of all
abbrev pub invariant-loop-claimed : goal.invariant-loop-claimed
invariant-loop-claimed l =
    (past : List Row) → IsTabled l.tables past →
    let test = has_numbers (executions past) l.execution l.leaf in
    find test (drop l.claimed-index l.tables.leaves.items) ≡ find test l.tables.leaves.items
