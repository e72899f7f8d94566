-- How an execution of a log stands.
use Rattle.std.specs.Prelude.{ℕ, Option, option_map}
use Rattle.rb_marks.specs.declared.mark.Status.{Status}
use Rattle.rb_log.specs.Executions.{execution_status}
use Rattle.rb_log.specs.LogState.{LogState, execution_at}

-- the status of the execution of this number, if there is one
abbrev pub status_in : LogState → ℕ → Option Status
status_in s number = option_map execution_status (execution_at s number)
