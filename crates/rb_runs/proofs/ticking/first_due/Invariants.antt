use Rattle.std.proofs.Common.{◌≤◌, length, drop}
use Rattle.rb_log.specs.Ticks.{first_by_id}
use Rattle.rb_runs.specs.Ticking.{MayBeDueJob, due_among}
use Rattle.rb_runs.proofs.ticking.first_due.Given as goal

-- the first of those from here on that are due
abbrev pub invariant-loop-project : goal.invariant-loop-project
invariant-loop-project l = record {
  within : l.project ≤ length l.tables.world.projects;
  is : MayBeDueJob l.tables.world.projects l.first
      (first_by_id (due_among l.now (drop l.project l.tables.world.projects)));
}

abbrev pub decreases-loop-project : goal.decreases-loop-project
decreases-loop-project l = l.project
