-- What a claim gives.
use Rattle.std.specs.Prelude.{◌≡◌, ℕ, ℤ, List, [], ◌∷◌, map, slice_get, Option, Some, None}
use Rattle.rb_causes.specs.declared.row.Row.{Row}
use Rattle.rb_acl.specs.declared.policy.Decision.{Decision}
use Rattle.rb_marks.specs.First.{first_startable}
use Rattle.rb_log.specs.Claims.{claim_among, claimed, refused_again}
use Rattle.rb_log.specs.Executions.{Execution, executions}
use Rattle.rb_log.specs.LogState.{LogState, log_state, running_executions}
use Rattle.rb_log.specs.Moves.{Moved, only}
use Rattle.rb_log.specs.declared.answer.Answer.TheVariants as answer
use Rattle.rb_tables.specs.Changes.{IsEffect, moved_of}
use Rattle.rb_tables.specs.declared.change.Change.{Change}
use Rattle.rb_runs.specs.declared.claiming.Start.{Start}

-- the rules give this to a claim, where something is running
abbrev pub IsGivenToClaim : List Row → ℤ → ℕ → Moved → Type 0
IsGivenToClaim past at worker moved =
    let s : LogState = log_state past in
    claim_among s at worker (running_executions s) ≡ moved

-- The leaf is the first startable one of the execution at the place, and a claim gives what becomes
-- of it: it begins, or its node is withdrawn.
pub record IsStart (past : List Row) (start : Start) : Type 0 where
  pub execution : Execution
  pub found : slice_get (executions past) start.place ≡ Some execution
  pub first : first_startable execution.accepted.plan execution.marks ≡ Some start.leaf
  pub gives : (at : ℤ) (worker : ℕ) →
      IsGivenToClaim past at worker
      (claimed (log_state past) execution at worker (Some start.leaf) (only answer.Idle))

-- a claim gives this leaf, or is idle
abbrev pub IsNextStart : List Row → Option Start → Type 0
IsNextStart past None = (at : ℤ) (worker : ℕ) → IsGivenToClaim past at worker (only answer.Idle)
IsNextStart past (Some start) = IsStart past start

-- The change is what a claim gives.
pub record IsClaim (past : List Row) (at : ℤ) (worker : ℕ) (change : Change) : Type 0 where
  pub gives : IsGivenToClaim past at worker (moved_of change)
  pub effect : IsEffect past change.row change.effect

-- The second check of a start: the node is refused now with this decision, or the leaf may begin.
abbrev pub IsChecked : List Row → Start → Option Decision → Type 0
IsChecked past start None =
    (e : Execution) → slice_get (executions past) start.place ≡ Some e →
    refused_again (log_state past) e start.leaf ≡ []
IsChecked past start (Some decision) =
    (e : Execution) → slice_get (executions past) start.place ≡ Some e →
    map (λ d. d.decision) (refused_again (log_state past) e start.leaf) ≡ decision ∷ []
