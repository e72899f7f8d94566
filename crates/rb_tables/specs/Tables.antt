-- What a desk keeps beside its log, and that it is what the log says.
use Rattle.std.specs.Prelude.{◌≡◌, ◌≤◌, ◌<◌, ◌+◌, ◌-◌, ◌^◌, min, ℕ, ℤ, false, List, [], ◌∷◌, map, filter, length, sum_by, Option, vec_len, vec_capacity}
use Rattle.rb_causes.specs.declared.row.Row.{Row}
use Rattle.rb_acl.specs.Numbering.{AreNumbered}
use Rattle.rb_log.specs.World.{LoggedProject, Latest}
use Rattle.rb_log.specs.Executions.{Execution as LoggedExecution, WithdrawnNode as LoggedWithdrawn, is_running}
use Rattle.rb_log.specs.LogState.{LogState, log_state, world_of}
use Rattle.rb_log.specs.Sums.{owed_by}
use Rattle.rb_log.specs.Legal.{IsLegalLog}
use Rattle.rb_tables.specs.Due.{project_nexts}
use Rattle.rb_tables.specs.Progress.{IsOver, IsProgress}
use Rattle.rb_tables.specs.declared.execution.Execution.{Execution}
use Rattle.rb_tables.specs.declared.execution.WithdrawnNode.{WithdrawnNode}
use Rattle.rb_tables.specs.declared.tables.Tables.{Tables}

-- a withdrawn node as the log tells it
abbrev pub withdrawn_of : WithdrawnNode → LoggedWithdrawn
withdrawn_of w = record { node = w.node; clause = w.clause }

-- an execution as the log tells it, where the log tells what only a run needs that goes on, and its
-- marks
abbrev pub execution_of : Execution → LoggedExecution → LoggedExecution
execution_of e l = record {
  number = e.number;
  at = e.at;
  caller = e.caller;
  policy_number = e.policy_number;
  accepted = record {
    project = e.project;
    job = e.job;
    plan = l.accepted.plan;
    nodes = l.accepted.nodes;
    commands = l.accepted.commands;
    values = e.values;
    dropped = l.accepted.dropped;
  };
  dropped = e.dropped;
  withdrawn = map withdrawn_of e.withdrawn.items;
  marks = l.marks;
}

-- The execution is this one of the log.
pub record IsOf (e : Execution) (l : LoggedExecution) : Type 0 where
  pub same : execution_of e l ≡ l
  pub names : e.nodes ≡ map (λ n. n.name) l.accepted.nodes
  pub progress : IsProgress e.progress l

-- It is kept as this one of the log, with a flow exactly where that runs: what is over does not
-- run, and what does not run is over.
pub record IsEntry (e : Execution) (l : LoggedExecution) : Type 0 where
  pub is : IsOf e l
  pub over : is_running l ≡ false → IsOver e.progress

-- each is kept as that of the log at its place
abbrev pub AreEntries : List Execution → List LoggedExecution → Type 0
AreEntries [] [] = Unit {0}
AreEntries [] (l ∷ ls) = ⊥
AreEntries (e ∷ es) [] = ⊥
AreEntries (e ∷ es) (l ∷ ls) = IsEntry e l × AreEntries es ls

abbrev pub latest_of_nodes : LoggedProject → Latest
latest_of_nodes p = p.nodes

-- what is owed by those of these executions that run
abbrev pub owed_among : List LoggedExecution → ℕ
owed_among es = sum_by owed_by (filter is_running es)

-- when each job of each project is due next
abbrev pub nexts : Tables → List (List (Option ℤ))
nexts t = map (λ due. due.items) t.due.items

-- The tables are what the log says, counted bytes up to the greatest number that they hold; policy
-- files are few, and 32 bits number the clauses of the policies.
pub record AreLogTables (t : Tables) (s : LogState) : Type 0 where
  pub counted : t.counted ≡ min s.counted (2 ^ 64 - 1)
  pub last : t.last ≡ s.last
  pub draw : t.draw ≡ s.draw
  pub workers : t.workers ≡ s.workers
  pub checks : t.checks ≡ s.checks
  pub doors : t.doors.items ≡ s.doors
  pub leaves : t.leaves.items ≡ s.leaves
  pub owed : t.owed_by_running ≡ owed_among s.executions
  pub zones : t.zones.items ≡ s.zones
  pub zones_number : t.zones_number ≡ s.zones_number
  pub nodes : t.nodes.items ≡ map latest_of_nodes s.projects
  pub due : nexts t ≡ map project_nexts t.world.projects
  pub files : t.files.items ≡ s.files
  pub few_files : length t.files.items ≤ 64
  pub jobs_number : t.jobs_number ≡ s.jobs_number
  pub executions : AreEntries t.executions.items s.executions
  pub world : t.world ≡ world_of s
  pub numbered : AreNumbered t.world.policies

-- the most rows that a log may have
unfoldable pub most_rows : ℕ
most_rows = 2000000

-- The tables are those of a legal log, whose rows come newest first, and which are not more than a
-- memory can hold. No limit of room is asked of it: a store may have been written in a larger one.
pub record IsTabled (t : Tables) (past : List Row) : Type 0 where
  pub says : AreLogTables t (log_state past)
  pub legal : IsLegalLog past
  pub few : length past < 2 ^ 40

-- there is memory for one more in each list of the tables
pub record HasSpare (t : Tables) : Type 0 where
  pub leaves : vec_len t.leaves < vec_capacity t.leaves
  pub zones : vec_len t.zones < vec_capacity t.zones
  pub nodes : vec_len t.nodes < vec_capacity t.nodes
  pub due : vec_len t.due < vec_capacity t.due
  pub files : vec_len t.files < vec_capacity t.files
  pub executions : vec_len t.executions < vec_capacity t.executions

-- there is memory for an End of each open leaf and a Close of each open door
abbrev pub IsCovered : Tables → ℕ → Type 0
IsCovered t spare = length t.leaves.items + length t.doors.items ≤ spare
