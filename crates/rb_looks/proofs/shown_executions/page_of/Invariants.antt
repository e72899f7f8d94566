use Rattle.std.proofs.Common.{◌≤◌, ◌+◌, List, length, drop}
use Rattle.rb_log.specs.Executions.{Execution}
use Rattle.rb_looks.specs.Looking.{chosen_newest_first, IsPageOf}
use Rattle.rb_tables.specs.Tables.{AreEntries}
use Rattle.rb_looks.proofs.shown_executions.page_of.Given as goal

-- what is shown of the executions behind this place
abbrev pub invariant-loop-left : goal.invariant-loop-left
invariant-loop-left l =
    (l.page.total + l.left ≤ length l.executions)
    × ((ls : List Execution) → AreEntries l.executions ls
    → IsPageOf l.choice (chosen_newest_first l.choice (drop l.left ls)) l.page.total l.page.views)

abbrev pub decreases-loop-left : goal.decreases-loop-left
decreases-loop-left l = l.left
