use Rattle.std.proofs.Common.{◌≡◌, ◌++◌, drop, length}
use Rattle.rb_log.specs.Executions.{Execution}
use Rattle.rb_log.specs.Looks.{node_states}
use Rattle.rb_tables.specs.Progress.{HasTiers}
use Rattle.rb_tables.specs.Tables.{IsOf}
use Rattle.rb_looks.proofs.shown_states.node_states.Given as goal

-- the states so far, and those of the nodes that are left, are all
abbrev pub invariant-loop-name : goal.invariant-loop-name
invariant-loop-name l =
    (length l.states ≡ l.name-index)
    × ((e : Execution) → IsOf l.execution e → HasTiers e
    → l.states ++ node_states e l.name-index (drop l.name-index e.accepted.nodes)
    ≡ node_states e 0 e.accepted.nodes)
