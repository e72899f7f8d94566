-- What is decided of a call, before a row is added.
use Rattle.std.specs.Prelude.{◌≡◌, ◌≤◌, ◌<◌, ◌+◌, ◌-◌, ◌^◌, min, ℕ, ℤ, Bool, true, false, List, [], ◌∷◌, ◌++◌, length, map, slice_get, Option, Some, None, Result, Ok, Err, IsTrue, vec_capacity, if◌then◌else◌}
use Rattle.std.specs.List.{list_any}
use Rattle.rb_causes.specs.declared.row.Row.{Row}
use Rattle.rb_marks.specs.First.{first_startable, may_withdraw, stops}
use Rattle.rb_marks.specs.declared.mark.Leaf.{Leaf}
use Rattle.rb_log.specs.Rows.{counted_bytes, nodes_kind, jobs_kind, policy_kind, zone_kind, accept_kind, skipped_kind, abort_kind, begin_kind, withdraw_kind, is_policy, is_zone, row_caller}
use Rattle.rb_log.specs.Imports.{has_place_for_file}
use Rattle.rb_log.specs.Readings.{Reading}
use Rattle.rb_log.specs.World.{LoggedProject, inventory_in, policies_in, jobs_in, project_name, projects_at, latest, zones_of, is_fire}
use Rattle.rb_log.specs.Executions.{Execution as LoggedExecution, is_running, executions, leaf_of, running_now, withdrawn_by}
use Rattle.rb_log.specs.LogState.{log_state, policies_in_force}
use Rattle.rb_log.specs.Moves.{Moved, only}
use Rattle.rb_log.specs.Turn.{MayRead, unlimited_turn}
use Rattle.rb_log.specs.declared.answer.Answer.{Answer}
use Rattle.rb_log.specs.declared.answer.Answer.TheVariants as answer
use Rattle.rb_log.specs.declared.call.Call.{Call}
use Rattle.rb_tables.specs.Leaves.{HasFewLeaves}
use Rattle.rb_tables.specs.Tables.{IsEntry, IsTabled, AreLogTables, withdrawn_of}
use Rattle.rb_tables.specs.Worlds.{held_by}
use Rattle.rb_tables.specs.declared.tables.Tables.{Tables}
use Rattle.rb_tables.specs.declared.change.Change.{Change}
use Rattle.rb_tables.specs.declared.change.Outcome.{Outcome}
use Rattle.rb_tables.specs.declared.change.Outcome.TheVariants.{Imported, Accepted, Fired, Aborted, Task, Withdrawn}
use Rattle.rb_tables.specs.declared.change.TableEffect.{TableEffect}
use Rattle.rb_tables.specs.declared.change.TableEffect.TheVariants.{Zone, Nodes, Policies, Jobs, Run, Skip, Abort, Begin, Withdraw}
use Rattle.rb_tables.specs.declared.change.ZonesEffect.{ZonesEffect}
use Rattle.rb_tables.specs.declared.change.NodesEffect.{NodesEffect}
use Rattle.rb_tables.specs.declared.change.PoliciesEffect.{PoliciesEffect}
use Rattle.rb_tables.specs.declared.change.JobsEffect.{JobsEffect}
use Rattle.rb_tables.specs.declared.change.RunEffect.{RunEffect}
use Rattle.rb_tables.specs.declared.change.WithdrawEffect.{WithdrawEffect}

-- ---- what a row does to the tables

-- the nodes of a row, with room for one more project
pub record IsNodesEffect (past : List Row) (row : Row) (e : NodesEffect) : Type 0 where
  pub kind : row.kind ≡ nodes_kind
  pub latest : e.latest ≡ row
  pub name : e.name ≡ row.name
  pub inventory : e.inventory ≡ inventory_in row
  pub empty : e.room.items ≡ []
  pub memory : length (projects_at past) < vec_capacity e.room

-- the policies of a row, for whose file there is a place, with room for all that are then in force
pub record IsPoliciesEffect (past : List Row) (row : Row) (e : PoliciesEffect) : Type 0 where
  pub kind : row.kind ≡ policy_kind
  pub place : IsTrue (has_place_for_file (latest is_policy past) row.name)
  pub latest_is : e.latest ≡ row
  pub new : e.new.items ≡ policies_in row
  pub empty : e.room.items ≡ []
  pub rest_empty : e.rest_room.items ≡ []
  pub memory : length (policies_in_force (log_state past)).docs + length e.new.items
      ≤ vec_capacity e.room
  pub rest_memory : length (policies_in_force (log_state past)).docs ≤ vec_capacity e.rest_room

-- the jobs of a row in the project of its name, with room for them
pub record IsJobsEffect (past : List Row) (row : Row) (e : JobsEffect) : Type 0 where
  pub kind : row.kind ≡ jobs_kind
  pub project : LoggedProject
  pub found : slice_get (projects_at past) e.place ≡ Some project
  pub named : project_name project ≡ row.name
  pub new : e.new.items ≡ map (held_by row.name (row_caller row) row.at)
      (jobs_in (zones_of (latest is_zone past)) row)
  pub empty : e.room.items ≡ []
  pub memory : length project.jobs + length e.new.items ≤ vec_capacity e.room
  pub due_empty : e.due_room.items ≡ []
  pub due_memory : length project.jobs + length e.new.items ≤ vec_capacity e.due_room

-- the zone of a row, with room for one more
pub record IsZonesEffect (past : List Row) (row : Row) (e : ZonesEffect) : Type 0 where
  pub kind : row.kind ≡ zone_kind
  pub latest_is : e.latest ≡ row
  pub zone : e.zone ≡ record { name = row.name; rule = row.body; zone = row.body }
  pub empty : e.room.items ≡ []
  pub memory : length (latest is_zone past) < vec_capacity e.room

-- the due job of this id was skipped
pub record IsSkipEffect (row : Row) (id : List ℕ) : Type 0 where
  pub kind : row.kind ≡ skipped_kind
  pub named : id ≡ row.name

-- a row that begins an execution fires the job of this id, or none
abbrev pub Fires : Row → Option (List ℕ) → Type 0
Fires row None = is_fire row ≡ false
Fires row (Some id) = (is_fire row ≡ true) × (id ≡ row.name)

-- the execution that a row begins, which has few leaves, with room for one more that runs
pub record IsRunEffect (past : List Row) (row : Row) (e : RunEffect) : Type 0 where
  pub kind : row.kind ≡ accept_kind
  pub fires : Fires row e.fired
  pub execution : LoggedExecution
  pub entry : IsEntry e.execution execution
  pub few : HasFewLeaves execution
  pub begun : executions (row ∷ past) ≡ executions past ++ execution ∷ []
  pub new : e.new
      ≡ (if is_running execution
      then Some (record { execution = execution.number; job = execution.accepted.job })
      else None)
  pub empty : e.room.items ≡ []
  pub memory : length (running_now (executions past)) < vec_capacity e.room

-- the execution at this place is the one that a row names
pub record IsAt (past : List Row) (row : Row) (place : ℕ) (e : LoggedExecution) : Type 0 where
  pub found : slice_get (executions past) place ≡ Some e
  pub named : e.number ≡ row.a

-- it runs, and was not stopped
pub record IsAbortEffect (past : List Row) (row : Row) (place : ℕ) : Type 0 where
  pub kind : row.kind ≡ abort_kind
  pub execution : LoggedExecution
  pub at : IsAt past row place execution
  pub runs : is_running execution ≡ true
  pub goes_on : list_any stops execution.marks ≡ false

-- its first startable leaf begins
pub record IsBeginEffect (past : List Row) (row : Row) (place : ℕ) (leaf : Leaf) (worker : ℕ)
    : Type 0 where
  pub kind : row.kind ≡ begin_kind
  pub bare : counted_bytes row ≡ 0
  pub claimer : worker ≡ row.c
  pub execution : LoggedExecution
  pub at : IsAt past row place execution
  pub begun : leaf_of execution row.b ≡ leaf
  pub first : first_startable execution.accepted.plan execution.marks ≡ Some leaf

-- the node of its first startable leaf, which opens its unit, is withdrawn, with the clause of the
-- decision on it
pub record IsWithdrawEffect (past : List Row) (row : Row) (e : WithdrawEffect) : Type 0 where
  pub kind : row.kind ≡ withdraw_kind
  pub bare : counted_bytes row ≡ 0
  pub execution : LoggedExecution
  pub at : IsAt past row e.place execution
  pub named : e.new.node ≡ row.b
  pub new : withdrawn_of e.new ∷ []
      ≡ withdrawn_by (policies_in_force (log_state past)) row execution
  pub may : IsTrue (may_withdraw execution.accepted.plan execution.marks row.b)

abbrev pub IsEffect : List Row → Row → TableEffect → Type 0
IsEffect past row (Zone e) = IsZonesEffect past row e
IsEffect past row (Nodes e) = IsNodesEffect past row e
IsEffect past row (Policies e) = IsPoliciesEffect past row e
IsEffect past row (Jobs e) = IsJobsEffect past row e
IsEffect past row (Run e) = IsRunEffect past row e
IsEffect past row (Skip id) = IsSkipEffect row id
IsEffect past row (Abort place) = IsAbortEffect past row place
IsEffect past row (Begin place leaf worker) = IsBeginEffect past row place leaf worker
IsEffect past row (Withdraw e) = IsWithdrawEffect past row e

-- ---- a row that comes

-- a row may come behind the log of the tables that has this effect
abbrev pub EffectMayCome : Tables → TableEffect → Type 0
EffectMayCome t e = (past : List Row) × (row : Row) × IsTabled t past × IsEffect past row e

-- A row of this moment and with so many counted bytes, up to the greatest number that is told, may
-- come behind the log of the tables, and has this effect.
pub record Comes (t : Tables) (at : ℤ) (counted : ℕ) (e : TableEffect) (past : List Row) (row : Row)
    : Type 0 where
  pub tabled : IsTabled t past
  pub at_is : at ≡ row.at
  pub counted_is : counted ≡ min (counted_bytes row) (2 ^ 64 - 1)
  pub effect : IsEffect past row e

abbrev pub ChangeMayCome : Tables → ℤ → ℕ → TableEffect → Type 0
ChangeMayCome t at counted e = (past : List Row) × (row : Row) × Comes t at counted e past row

-- the tables are then those of the log with this row
abbrev pub Follow : Tables → Tables → ℤ → ℕ → TableEffect → Type 0
Follow old new at counted e =
    (past : List Row) (row : Row) → Comes old at counted e past row →
    AreLogTables new (log_state (row ∷ past))

-- ---- what is decided of a call

abbrev pub answer_of : Outcome → Answer
answer_of (Imported version jobs) = answer.Imported version jobs
answer_of (Accepted view) = answer.Accepted view
answer_of (Fired execution) = answer.Fired execution
answer_of (Aborted status) = answer.Aborted status
answer_of (Task claimed words) = answer.Task (record { claimed = claimed; words = words })
answer_of (Withdrawn execution node decision) = answer.Withdrawn execution node decision

-- for how many rows there has to be room, where that is asked
abbrev pub need_of : TableEffect → Option ℕ
need_of (Zone e) = Some 1
need_of (Nodes e) = Some 1
need_of (Policies e) = Some 1
need_of (Jobs e) = Some 1
need_of (Run e) = Some e.need
need_of (Skip id) = Some 1
need_of (Abort place) = None
need_of (Begin place leaf worker) = None
need_of (Withdraw e) = None

-- as the rules tell it
abbrev pub moved_of : Change → Moved
moved_of c =
    record { answer = answer_of c.outcome; row = Some c.row; need = need_of c.effect }

-- For what the readers may give, the rules say this.
pub record AreRuled (past : List Row) (call : Call) (moved : Moved) : Type 0 where
  pub reading : Reading
  pub may_read : MayRead (log_state past) call reading
  pub says : unlimited_turn reading (log_state past) call ≡ moved

-- want of memory, or what the rules answer without a row
abbrev pub IsSettled : List Row → Call → Answer → Type 0
IsSettled past call answer.NoMemory = Unit {0}
IsSettled past call other = AreRuled past call (only other)

-- an answer that is settled, or a row that the rules add
abbrev pub Decided : List Row → Call → Result Change Answer → Type 0
Decided past call (Err a) = IsSettled past call a
Decided past call (Ok c) = AreRuled past call (moved_of c) × IsEffect past c.row c.effect

-- ---- one rule of several

-- want of memory, or the answer by which a rule refuses
abbrev pub IsRefusal : {A : Type 0} → Result A Answer → Answer → Type 0
IsRefusal rule answer.NoMemory = Unit {0}
IsRefusal rule other = rule ≡ Err other

-- a rule holds, or refuses so
abbrev pub Keeps : {A : Type 0} → Result Bool Answer → Result A Answer → Type 0
Keeps rule (Ok a) = rule ≡ Ok true
Keeps rule (Err a) = IsRefusal rule a

-- want of memory, or what the rules answer
abbrev pub IsAnswerOf : Moved → Answer → Type 0
IsAnswerOf moved answer.NoMemory = Unit {0}
IsAnswerOf moved other = moved ≡ only other

-- so it is answered, or so the row comes with its effect
abbrev pub Makes : List Row → Moved → Result Change Answer → Type 0
Makes past moved (Err a) = IsAnswerOf moved a
Makes past moved (Ok c) = (moved ≡ moved_of c) × IsEffect past c.row c.effect
