use Rattle.std.proofs.Common.{◌≡◌, ◌≤◌, ◌<◌, length, map}
use Rattle.rb_marks.specs.Units.{step_at}
use Rattle.rb_log.specs.Executions.{Execution}
use Rattle.rb_log.specs.Sums.{numbers_below}
use Rattle.rb_tables.specs.Progress.{IsProgress}
use Rattle.rb_looks.proofs.shown_states.node_steps.Given as goal

-- the results of the steps so far
abbrev pub invariant-loop-step : goal.invariant-loop-step
invariant-loop-step l =
    (l.step ≤ l.step-end)
    × ((e : Execution) → IsProgress l.progress e → l.node < length e.accepted.plan.tiers
    → l.results ≡ map (step_at e.accepted.plan e.marks l.node) (numbers_below l.step))
