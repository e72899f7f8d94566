use Rattle.std.proofs.Common.{◌≡◌, ◌++◌, drop, map}
use Rattle.rb_canon.specs.Views.{canon_tree}
use Rattle.rb_export.specs.Jobs.{job_value}
use Rattle.rb_export.proofs.jobs.jobs_value.Given as goal

-- the values so far, with those of the jobs that are left, are all
abbrev pub invariant-loop-job : goal.invariant-loop-job
invariant-loop-job l =
    map canon_tree l.items.items ++ map job_value (drop l.job-index l.jobs) ≡ map job_value l.jobs
