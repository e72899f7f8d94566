use Rattle.std.proofs.Common.{List, map, take}
use Rattle.rb_causes.specs.declared.row.Row.{Row}
use Rattle.rb_log.specs.Executions.{executions}
use Rattle.rb_tables.specs.Tables.{AreEntries}
use Rattle.rb_changes.specs.Openings.{AreRunning}
use Rattle.rb_changes.proofs.LostRows.{lost_if}
use Rattle.rb_changes.proofs.opening.lose_all.Given as goal

-- those before the index are lost
abbrev pub invariant-loop-lost : goal.invariant-loop-lost
invariant-loop-lost l =
    (past : List Row) → AreRunning l.fn.executions.items l.running past
    → AreEntries l.executions.items
    (map (lost_if (take l.lost-index l.running)) (executions past))
