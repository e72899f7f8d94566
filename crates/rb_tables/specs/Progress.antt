-- How far an execution has come, and what is kept of it then.
use Rattle.std.specs.Prelude.{◌≡◌, ◌≤◌, ◌<◌, ◌*◌, ℕ, zero, suc, false, List, [], ◌++◌, length, map, Vec, vec_capacity, ◌^◌}
use Rattle.std.specs.Global.{Global}
use Rattle.rb_marks.specs.FlowState.{FlowState}
use Rattle.rb_marks.specs.Units.{Outline, outline, step_at}
use Rattle.rb_marks.specs.declared.mark.Mark.{Mark}
use Rattle.rb_marks.specs.declared.mark.StepResult.{StepResult}
use Rattle.rb_log.specs.Executions.{Execution, execution_status, is_running}
use Rattle.rb_log.specs.Sums.{numbers_below}
use Rattle.rb_tables.specs.declared.progress.Progress.{Progress}
use Rattle.rb_tables.specs.declared.progress.Progress.TheVariants.{Going, Over}
use Rattle.rb_tables.specs.declared.progress.Results.{Results}
use Rattle.rb_tables.specs.declared.progress.RunState.{RunState}

-- what has become of each top-level step on a node
abbrev pub step_results : Outline → List Mark → ℕ → List StepResult
step_results p marks node = map (step_at p marks node) (numbers_below (length p.steps))

-- the same on each of the first nodes, node after node
abbrev pub results_below : Outline → List Mark → ℕ → List StepResult
results_below p marks zero = []
results_below p marks (suc n) = results_below p marks n ++ step_results p marks n

-- The flow is one of the execution's plan, with its marks.
pub record IsFlowOf (flow : FlowState) (l : Execution) : Type 0 where
  pub plan : outline flow.plan ≡ l.accepted.plan
  pub marks : flow.marks ≡ l.marks

-- There is memory for what has become of each top-level step on each node.
pub record HasResultRoom (room : Vec StepResult Global) (l : Execution) : Type 0 where
  pub empty : room.items ≡ []
  pub memory : length l.accepted.plan.tiers * length l.accepted.plan.steps ≤ vec_capacity room

-- The execution does not run any more, and these are its status and its results.
pub record HasEnded (r : Results) (l : Execution) : Type 0 where
  pub ended : is_running l ≡ false
  pub status : r.status ≡ execution_status l
  pub steps : r.steps ≡ length l.accepted.plan.steps
  pub results : r.results.items
      ≡ results_below l.accepted.plan l.marks (length l.accepted.plan.tiers)

-- What is kept for a run that goes on: its flow, with memory for its results, its nodes and its
-- commands.
pub record IsRunState (g : RunState) (l : Execution) : Type 0 where
  pub flow : IsFlowOf g.flow l
  pub room : HasResultRoom g.room l
  pub nodes : g.nodes ≡ l.accepted.nodes
  pub commands : g.commands ≡ l.accepted.commands

-- it is that of the execution; one that still runs is not over
abbrev pub IsProgress : Progress → Execution → Type 0
IsProgress (Going g) l = IsRunState g l
IsProgress (Over r) l = HasEnded r l

-- what only a run needs that goes on is gone
abbrev pub IsOver : Progress → Type 0
IsOver (Going g) = ⊥
IsOver (Over r) = Unit {0}

-- It is that of the execution, and over where that does not run.
pub record IsKeptProgress (p : Progress) (l : Execution) : Type 0 where
  pub is : IsProgress p l
  pub over : is_running l ≡ false → IsOver p

-- there is room for one more Begin
abbrev pub HasBeginRoom : Progress → Type 0
HasBeginRoom (Going g) = 0 < g.flow.room
HasBeginRoom (Over r) = ⊥

-- It is that of an execution that has ended on so many nodes.
pub record IsClosing (p : Progress) (l : Execution) (nodes : ℕ) : Type 0 where
  pub is : IsProgress p l
  pub nodes_are : nodes ≡ length l.accepted.plan.tiers
  pub ended : is_running l ≡ false

-- The plan has a tier for each node, and 32 bits number them.
pub record HasTiers (e : Execution) : Type 0 where
  pub nodes : length e.accepted.nodes ≡ length e.accepted.plan.tiers
  pub few : length e.accepted.plan.tiers < 2 ^ 32
