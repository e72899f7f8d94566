use Rattle.std.proofs.Common.{◌≡◌, map, take}
use Rattle.rb_imports.specs.JobImports.{imported_job}
use Rattle.rb_imports.proofs.job_imports.imported_jobs.Given as goal

-- what is done with the jobs so far
abbrev pub invariant-loop-job : goal.invariant-loop-job
invariant-loop-job l = l.done ≡ map (imported_job l.project l.projects) (take l.job-index l.jobs)
