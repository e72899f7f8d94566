-- What an opening is of a row that opens the log again.
use Rattle.std.specs.Prelude.{◌≡◌, List, IsTrue}
use Rattle.rb_causes.specs.declared.row.Row.{Row}
use Rattle.rb_plan.specs.declared.world.Running.{Running}
use Rattle.rb_log.specs.Rows.{is_opened, is_second_opening}
use Rattle.rb_log.specs.Executions.{executions, running_now}
use Rattle.rb_log.specs.Legal.{IsLegalLog}
use Rattle.rb_log.specs.Sums.{numbers_below}
use Rattle.rb_tables.specs.Tables.{AreEntries, IsTabled}
use Rattle.rb_tables.specs.declared.execution.Execution.{Execution}
use Rattle.rb_tables.specs.declared.tables.Tables.{Tables}
use Rattle.rb_changes.specs.declared.opening.Opening.{Opening}

-- The row is an opening, and this is what it asks for.
pub record IsOpeningOf (o : Opening) (row : Row) : Type 0 where
  pub opened : IsTrue (is_opened row)
  pub at : o.at ≡ row.at
  pub doors : o.doors.items ≡ numbers_below row.a
  pub workers : o.workers ≡ row.b
  pub draw : o.draw ≡ row.c
  pub checks : o.checks ≡ is_second_opening row

-- The row comes behind the log of the tables.
pub record Opens (t : Tables) (o : Opening) (past : List Row) (row : Row) : Type 0 where
  pub tabled : IsTabled t past
  pub is : IsOpeningOf o row

-- These are the executions of a legal log, and those of them that run.
pub record AreRunning (es : List Execution) (running : List Running) (past : List Row)
    : Type 0 where
  pub legal : IsLegalLog past
  pub entries : AreEntries es (executions past)
  pub runs : running ≡ running_now (executions past)
