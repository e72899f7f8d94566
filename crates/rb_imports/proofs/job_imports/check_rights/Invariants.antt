use Rattle.std.proofs.Common.{◌≡◌, drop}
use Rattle.rb_imports.specs.JobImports.{each_keeps, may_import}
use Rattle.rb_imports.proofs.job_imports.check_rights.Given as goal

-- the jobs that are left decide
abbrev pub invariant-loop-job : goal.invariant-loop-job
invariant-loop-job l =
    each_keeps (may_import l.access l.project l.projects) (drop l.job-index l.jobs)
    ≡ each_keeps (may_import l.access l.project l.projects) l.jobs
