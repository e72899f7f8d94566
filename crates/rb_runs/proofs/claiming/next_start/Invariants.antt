use Rattle.std.proofs.Common.{◌≡◌, ℕ, ℤ, List, drop}
use Rattle.rb_causes.specs.declared.row.Row.{Row}
use Rattle.rb_log.specs.Claims.{claim_among}
use Rattle.rb_log.specs.LogState.{log_state, running_executions}
use Rattle.rb_tables.specs.Tables.{IsTabled}
use Rattle.rb_runs.proofs.claiming.next_start.Given as goal

-- none so far has a leaf that may start
abbrev pub invariant-loop-running : goal.invariant-loop-running
invariant-loop-running l =
    (past : List Row) → IsTabled l.tables past → (at : ℤ) (worker : ℕ)
    → claim_among (log_state past) at worker (running_executions (log_state past))
    ≡ claim_among (log_state past) at worker (drop l.running-index (running_executions (log_state past)))
