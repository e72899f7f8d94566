-- What holds of one step of a desk, as callers who share the desk look at it. A log is given oldest
-- first.
use Rattle.std.specs.Prelude.{◌≡◌, ◌<◌, ◌-◌, ◌++◌, ◌||◌, ℕ, ℤ, Bool, true, false, List, length, reverse, slice_get, Contains, Option, Some, option_to_list, IsTrue}
use Rattle.rb_causes.specs.declared.row.Row.{Row}
use Rattle.rb_log.specs.Readings.{Reading}
use Rattle.rb_log.specs.Rows.{is_abort, is_accept, is_begin, is_close, is_end, is_jobs, is_nodes, is_policy, is_skipped, is_withdraw, is_zone}
use Rattle.rb_log.specs.Executions.{Execution, execution_among, executions}
use Rattle.rb_log.specs.Laws.{CallAsked}
use Rattle.rb_log.specs.Legal.{IsLegalLog, rights_of}
use Rattle.rb_log.specs.LogState.{log_state}
use Rattle.rb_log.specs.Programs.{words_of_row}
use Rattle.rb_log.specs.Records.{IsTrueRecord, Record}
use Rattle.rb_log.specs.Sums.{named_leaf, same_open}
use Rattle.rb_log.specs.Tasks.{TaskValue}
use Rattle.rb_log.specs.Turn.{turn_of}
use Rattle.rb_log.specs.Told.{IsBeginning, record_of}
use Rattle.rb_log.specs.declared.answer.Answer.{Answer}
use Rattle.rb_log.specs.declared.answer.Answer.TheVariants as answer
use Rattle.rb_log.specs.declared.call.Call.{Call}
use Rattle.rb_log.specs.declared.call.Call.TheVariants as calls
use Rattle.rb_log.specs.declared.call.Call.TheVariants.{Claim}
use Rattle.rb_log.specs.declared.task.OpenLeaf.{OpenLeaf}

-- a task is the answer to a claim, and is for the worker of that claim
abbrev pub IsClaimed : Call → Answer → Type 0
IsClaimed call a =
    (t : TaskValue) → a ≡ answer.Task t →
    (worker : ℕ) × (at : ℤ) × (call ≡ Claim worker at) × (t.claimed.worker ≡ worker)

-- in a true record only a claim has a task, and it is for the claim's worker
abbrev pub TasksAreClaimed : Type 0
TasksAreClaimed =
    (log : List Row) (room before : ℕ) (call : Call) (a : Answer) →
    IsTrueRecord log room (record_of call a before log) → IsClaimed call a

-- The row begins the leaf of the task, and the task's words are those of the row.
pub record IsBegunTask (past : List Row) (t : TaskValue) (row : Row) : Type 0 where
  pub execution : Execution
  pub begins : IsTrue (is_begin row)
  pub found : execution_among row.a (executions past) ≡ Some execution
  pub claimed : t.claimed ≡ named_leaf row execution
  pub words : t.words ≡ words_of_row row execution

-- a turn that gives a task adds the Begin of that task; the rows come newest first
abbrev pub TasksAreBegun : Type 0
TasksAreBegun =
    (past : List Row) (room : ℕ) (call : Call) (reading : Reading) (t : TaskValue) →
    CallAsked past call reading → (turn_of reading past room call).answer ≡ answer.Task t →
    (row : Row) × ((turn_of reading past room call).row ≡ Some row) × IsBegunTask past t row

-- the row is of a kind that the call adds; a look and a save add none
abbrev pub is_row_of : Call → Row → Bool
is_row_of (calls.ImportZone name rule at) row = is_zone row
is_row_of (calls.ImportNodes project body at) row = is_nodes row
is_row_of (calls.ImportPolicy caller checked name body at) row = is_policy row
is_row_of (calls.ImportJobs caller checked project body at) row = is_jobs row
is_row_of (calls.Run caller ask at) row = is_accept row
is_row_of (calls.Abort caller execution at) row = is_abort row
is_row_of (calls.Tick at) row = is_accept row || is_skipped row
is_row_of (calls.Claim worker at) row = is_begin row || is_withdraw row
is_row_of (calls.Report done at) row = is_end row
is_row_of (calls.CloseDoor door at) row = is_close row
is_row_of (calls.Look caller look) row = false
is_row_of calls.Save row = false

-- the row that a record adds, which is the last one behind it, is of a kind of its call
abbrev pub RowsAreOfCalls : Type 0
RowsAreOfCalls =
    (log : List Row) (room : ℕ) (r : Record) (row : Row) → IsTrueRecord log room r →
    r.before < r.after → slice_get log (r.after - 1) ≡ Some row → is_row_of r.call row ≡ true

-- and where it is a Begin the call is a claim, and is answered with a task
abbrev pub BeginsAreTasks : Type 0
BeginsAreTasks =
    (log : List Row) (room : ℕ) (r : Record) (row : Row) → IsTrueRecord log room r →
    r.before < r.after → slice_get log (r.after - 1) ≡ Some row → IsTrue (is_begin row) →
    (worker : ℕ) × (at : ℤ) × (t : TaskValue)
    × (r.call ≡ Claim worker at) × (r.answer ≡ answer.Task t)

-- a record adds one row or none
abbrev pub OneRow : Type 0
OneRow =
    (room : ℕ) (call : Call) (a : Answer) (old new : List Row) → IsBeginning old new →
    IsTrueRecord new room (record_of call a (length old) new) →
    (row : Option Row) × (new ≡ old ++ option_to_list row)

-- two open leaves of one leaf are one
abbrev pub OneEach : List OpenLeaf → Type 0
OneEach leaves =
    (a b : OpenLeaf) → Contains leaves a → Contains leaves b → same_open a b ≡ true → a ≡ b

abbrev pub OpenOnce : Type 0
OpenOnce =
    (log : List Row) → IsLegalLog (reverse log) →
    OneEach (rights_of (log_state (reverse log))).leaves
