-- What is asked for before an execution goes on.
use Rattle.std.specs.Prelude.{◌≡◌, ◌<◌, ◌≤◌, ◌+◌, ◌-◌, ◌^◌, ℕ, Bool, true, not, ◌||◌, nat_eq, List, [], ◌∷◌, ◌++◌, filter, Contains, slice_get, slice_set, Option, Some, None, is_some, IsTrue, vec_len, vec_capacity, if◌then◌else◌}
use Rattle.std.specs.List.{list_any}
use Rattle.rb_causes.specs.declared.ending.Ending.{Ending}
use Rattle.rb_causes.specs.declared.row.Row.{Row}
use Rattle.rb_marks.specs.First.{first_startable}
use Rattle.rb_marks.specs.declared.mark.Mark.{Mark}
use Rattle.rb_marks.specs.declared.mark.Mark.TheVariants.{Withdraw as Withdrawal}
use Rattle.rb_marks.specs.declared.mark.Status.{Status}
use Rattle.rb_marks.specs.declared.mark.Status.TheVariants as status
use Rattle.rb_plan.specs.declared.world.Running.{Running}
use Rattle.rb_log.specs.Executions.{Execution as LoggedExecution, WithdrawnNode as LoggedWithdrawn, is_running}
use Rattle.rb_log.specs.LogState.{log_state}
use Rattle.rb_log.specs.Sums.{owed_by}
use Rattle.rb_log.specs.Tasks.{is_ending}
use Rattle.rb_log.specs.declared.task.OpenLeaf.{OpenLeaf}
use Rattle.rb_tables.specs.Leaves.{HasFewLeaves}
use Rattle.rb_tables.specs.Progress.{HasTiers}
use Rattle.rb_tables.specs.Progress.{HasBeginRoom}
use Rattle.rb_tables.specs.Tables.{IsEntry, IsOf, IsTabled}
use Rattle.rb_tables.specs.declared.change.TableEffect.{TableEffect}
use Rattle.rb_tables.specs.declared.change.TableEffect.TheVariants.{Begin, Withdraw}
use Rattle.rb_tables.specs.declared.execution.Execution.{Execution}
use Rattle.rb_tables.specs.declared.tables.Tables.{Tables}

-- The execution at a place has room for one more Begin.
pub record CanBegin (executions : List Execution) (place : ℕ) : Type 0 where
  pub execution : Execution
  pub found : slice_get executions place ≡ Some execution
  pub room : HasBeginRoom execution.progress

-- The execution at a place has memory for one more withdrawn node. Its flow has a place for each
-- withdrawal since it was opened.
pub record CanWithdraw (executions : List Execution) (place : ℕ) : Type 0 where
  pub execution : Execution
  pub found : slice_get executions place ≡ Some execution
  pub room : vec_len execution.withdrawn < vec_capacity execution.withdrawn

abbrev pub HasFlowRoom : Tables → TableEffect → Type 0
HasFlowRoom t (Begin place leaf worker) = CanBegin t.executions.items place
HasFlowRoom t (Withdraw e) = CanWithdraw t.executions.items e.place
HasFlowRoom t other = Unit {0}

-- The execution at a place is one of the log that runs.
pub record RunsAt (executions : List Execution) (place : ℕ) : Type 0 where
  pub execution : Execution
  pub found : slice_get executions place ≡ Some execution
  pub logged : LoggedExecution
  pub is : IsOf execution logged
  pub goes_on : is_running logged ≡ true

-- The leaf is open, and this is how one ends.
pub record MayEnd (t : Tables) (past : List Row) (claimed : OpenLeaf) (ending : Ending)
    : Type 0 where
  pub tabled : IsTabled t past
  pub claim : Contains (log_state past).leaves claimed
  pub formed : IsTrue (is_ending ending)

-- an execution with one mark more
abbrev pub with_mark : LoggedExecution → Mark → LoggedExecution
with_mark e mark = record e { marks = e.marks ++ mark ∷ [] }

-- an execution with one withdrawn node more
abbrev pub with_withdrawal : LoggedExecution → LoggedWithdrawn → LoggedExecution
with_withdrawal e w = record e {
  withdrawn = e.withdrawn ++ w ∷ [];
  marks = e.marks ++ Withdrawal w.node ∷ [];
}

-- what an execution owes, where it runs
abbrev pub owed_if_running : LoggedExecution → ℕ
owed_if_running e = if is_running e then owed_by e else 0

-- those that run, without one that does not run any more
abbrev pub running_after : LoggedExecution → List Running → List Running
running_after e running =
    if is_running e then running else filter (λ r. not (nat_eq r.execution e.number)) running

-- one of these is of the execution of this number
abbrev pub has_open_leaf : ℕ → List OpenLeaf → Bool
has_open_leaf number leaves = list_any (λ o. nat_eq o.execution number) leaves

-- a leaf of the execution is among the open ones, or one may start
abbrev pub runs : LoggedExecution → List OpenLeaf → Bool
runs e leaves =
    has_open_leaf e.number leaves || is_some (first_startable e.accepted.plan e.marks)

-- The execution at a place is this one of the log, and the tables tell whether that runs.
pub record IsTold (t : Tables) (place : ℕ) (l : LoggedExecution) : Type 0 where
  pub execution : Execution
  pub found : slice_get t.executions.items place ≡ Some execution
  pub is : IsOf execution l
  pub tiers : HasTiers l
  pub told : runs l t.leaves.items ≡ is_running l

-- so much may be taken from what is owed, and little is owed
abbrev pub MayOwe : Tables → ℕ → Type 0
MayOwe t before = (before ≤ t.owed_by_running) × (t.owed_by_running < 2 ^ 60)

-- The execution at a place is this one of the log, and owed so many rows before.
pub record IsOwing (t : Tables) (place : ℕ) (l : LoggedExecution) (before : ℕ) : Type 0 where
  pub execution : Execution
  pub found : slice_get t.executions.items place ≡ Some execution
  pub entry : IsEntry execution l
  pub few : HasFewLeaves l
  pub may : MayOwe t before

-- The execution at a place is kept as this one of the log, and is out of those that run if it does
-- not run any more.
pub record Closes (old new : Tables) (place : ℕ) (l : LoggedExecution) : Type 0 where
  pub execution : Execution
  pub entry : IsEntry execution l
  pub executions : new.executions.items ≡ slice_set old.executions.items place execution
  pub rest : new ≡ record old {
    executions = new.executions;
    world = record old.world { running = running_after l old.world.running };
  }

-- So it is, and what is owed has followed, where it owed so many rows before.
pub record Retires (old new : Tables) (place before : ℕ) (l : LoggedExecution) : Type 0 where
  pub execution : Execution
  pub entry : IsEntry execution l
  pub executions : new.executions.items ≡ slice_set old.executions.items place execution
  pub rest : new ≡ record old {
    executions = new.executions;
    owed_by_running = old.owed_by_running - before + owed_if_running l;
    world = record old.world { running = running_after l old.world.running };
  }

-- an aborted run goes on as long as a leaf of it is open
abbrev pub aborted_status : ℕ → List OpenLeaf → Status
aborted_status number leaves =
    if has_open_leaf number leaves then status.Running else status.Aborted

-- an execution as a verdict looks at it, where it runs
abbrev pub as_running : LoggedExecution → Option Running
as_running e =
    if is_running e then Some (record { execution = e.number; job = e.accepted.job }) else None
