use Rattle.std.proofs.Common.{◌≡◌, drop}
use Rattle.rb_imports.specs.JobImports.{each_keeps, name_free}
use Rattle.rb_imports.proofs.job_imports.check_names.Given as goal

-- the jobs that are left decide
abbrev pub invariant-loop-job : goal.invariant-loop-job
invariant-loop-job l =
    each_keeps (name_free l.projects l.project) (drop l.job-index l.jobs)
    ≡ each_keeps (name_free l.projects l.project) l.jobs
