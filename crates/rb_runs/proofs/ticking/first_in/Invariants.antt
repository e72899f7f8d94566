use Rattle.std.proofs.Common.{◌≤◌, ◌++◌, List, length, slice_get}
use Rattle.std.specs.Prelude.{IfSome}
use Rattle.rb_log.specs.Ticks.{DueJob as LoggedDue, first_by_id}
use Rattle.rb_runs.specs.Ticking.{IsPlaceIn, MayBeDueJob, due_left}
use Rattle.rb_runs.proofs.ticking.first_in.Given as goal

-- the first of those from here on that are due, and of one behind them
abbrev pub invariant-loop-job : goal.invariant-loop-job
invariant-loop-job l = record {
  within : l.job ≤ length l.due;
  there : IfSome l.first (λ d. IsPlaceIn l.tables.world.projects d.place);
  is : (rest : List LoggedDue)
      → MayBeDueJob l.tables.world.projects l.fn.behind (first_by_id rest)
      → MayBeDueJob l.tables.world.projects l.first
      (first_by_id (due_left l.now (slice_get l.tables.world.projects l.project) l.job ++ rest));
}

abbrev pub decreases-loop-job : goal.decreases-loop-job
decreases-loop-job l = l.job
