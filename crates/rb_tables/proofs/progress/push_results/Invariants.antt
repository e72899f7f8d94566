use Rattle.std.proofs.Common.{◌≡◌, ◌≤◌, ◌++◌, map, vec_capacity}
use Rattle.rb_marks.specs.Units.{outline, step_at}
use Rattle.rb_log.specs.Sums.{numbers_below}
use Rattle.rb_tables.proofs.progress.push_results.Given as goal

-- the results of the steps so far
abbrev pub invariant-loop-step : goal.invariant-loop-step
invariant-loop-step l =
    (l.step ≤ l.step-end)
    × (l.results.items
    ≡ l.fn.results.items
    ++ map (step_at (outline l.flow.plan) l.flow.marks l.node) (numbers_below l.step))
    × (vec_capacity l.results ≡ vec_capacity l.fn.results)
