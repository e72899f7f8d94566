-- How an accepted run begins.
use Rattle.std.specs.Prelude.{◌≡◌, ◌≤◌, ◌<◌, ◌+◌, ◌*◌, ℕ, ℤ, List, [], length, All, Option, Some, None, option_map, vec_capacity}
use Rattle.rb_acl.specs.Naming.{IsNamed}
use Rattle.rb_acl.specs.declared.policy.Caller.{Caller}
use Rattle.rb_acl.specs.declared.policy.Policies.{Policies}
use Rattle.rb_marks.specs.Sound.{IsSound}
use Rattle.rb_plan.specs.Acceptance.{Acceptance}
use Rattle.rb_plan.specs.declared.accepted.Dropped.{Dropped}
use Rattle.rb_plan.specs.declared.world.RunAsk.{RunAsk}
use Rattle.rb_plan.specs.declared.world.World.{World}
use Rattle.rb_log.specs.Asks.{ask_text}
use Rattle.rb_log.specs.Executions.{Execution, started}
use Rattle.rb_log.specs.Rows.{accept_row}
use Rattle.rb_log.specs.Runs.{view_of}
use Rattle.rb_log.specs.Sums.{leaf_count}
use Rattle.rb_tables.specs.Tables.{IsEntry}
use Rattle.rb_tables.specs.declared.change.Change.{Change}
use Rattle.rb_tables.specs.declared.change.TableEffect.TheVariants.{Run}
use Rattle.rb_tables.specs.declared.change.Outcome.{Outcome}
use Rattle.rb_tables.specs.declared.change.Outcome.TheVariants.{Accepted, Fired}
use Rattle.rb_tables.specs.declared.change.RunEffect.{RunEffect}
use Rattle.rb_tables.specs.Running.{as_running}

-- the decision on each of these names a rule of the policies
abbrev pub AreNamed : Policies → List Dropped → Type 0
AreNamed policies dropped = All (λ d. IsNamed policies d.decision) dropped

-- An accepted run that can begin: its plan can be run and has a tier for each node, one command
-- stands in each slot, its leaves are few, and the clauses of its dropped nodes can be told.
pub record MayBegin (policies : Policies) (a : Acceptance) : Type 0 where
  pub sound : IsSound a.plan
  pub commands : length a.commands ≡ a.plan.slots
  pub nodes : length a.nodes ≡ length a.plan.tiers
  pub few : length a.nodes * a.plan.slots ≤ 100000
  pub named : AreNamed policies a.dropped

-- what is answered where an execution has begun, to a caller or to a schedule
abbrev pub begun_outcome : Execution → Option ℕ → Outcome
begun_outcome e None = Accepted (view_of e)
begun_outcome e (Some instant) = Fired e.number

-- the id of the job that a schedule fires, where one asked
abbrev pub fired_id : RunAsk → Option ℕ → Option (List ℕ)
fired_id ask due = option_map (λ instant. ask.job) due

-- what becomes of the tables where the execution of this number begins
pub record BeginsEffect (world : World) (number : ℕ) (at : ℤ) (caller : Caller) (ask : RunAsk)
    (due : Option ℕ) (accepted : Acceptance) (e : RunEffect) : Type 0 where
  pub execution : Execution
  pub is : execution ≡ started world number at caller accepted
  pub entry : IsEntry e.execution execution
  pub need : e.need ≡ 2 + 2 * leaf_count execution
  pub fired : e.fired ≡ fired_id ask due
  pub new : e.new ≡ as_running execution
  pub empty : e.room.items ≡ []
  pub memory : length world.running < vec_capacity e.room

-- what begins the next execution, by a verdict on this world, where so many executions are there
-- and the nodes of the project were imported so often
pub record BeginsExecution (world : World) (there inventory : ℕ) (at : ℤ) (caller : Caller)
    (ask : RunAsk) (due : Option ℕ)
    (accepted : Acceptance) (c : Change) : Type 0 where
  pub effect : RunEffect
  pub runs : c.effect ≡ Run effect
  pub execution : Execution
  pub is : execution ≡ started world (there + 1) at caller accepted
  pub entry : IsEntry effect.execution execution
  pub outcome : c.outcome ≡ begun_outcome execution due
  pub row : c.row
      ≡ accept_row at (there + 1) world.policy_number inventory ask.job caller
      (ask_text ask due)
  pub need : effect.need ≡ 2 + 2 * leaf_count execution
  pub fired : effect.fired ≡ fired_id ask due
  pub new : effect.new ≡ as_running execution
  pub empty : effect.room.items ≡ []
  pub memory : length world.running < vec_capacity effect.room
