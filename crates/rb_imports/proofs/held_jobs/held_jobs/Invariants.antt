use Rattle.std.proofs.Common.{◌≡◌, ◌++◌, map}
use Rattle.std.specs.Vec.Iter.{into_iter_items}
use Rattle.rb_tables.specs.Worlds.{held_by}
use Rattle.rb_imports.proofs.held_jobs.held_jobs.Given as goal

-- what is held and what is left are all jobs
abbrev pub invariant-loop-job : goal.invariant-loop-job
invariant-loop-job l =
    l.held.items ++ map (held_by l.project l.importer l.looked) (into_iter_items l.job-iterator)
    ≡ map (held_by l.fn.project l.fn.importer l.fn.looked) l.fn.jobs
