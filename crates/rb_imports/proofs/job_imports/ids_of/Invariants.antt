use Rattle.std.proofs.Common.{◌≡◌, map, take}
use Rattle.rb_log.specs.World.{job_id}
use Rattle.rb_imports.proofs.job_imports.ids_of.Given as goal

-- the ids so far
abbrev pub invariant-loop-job : goal.invariant-loop-job
invariant-loop-job l = l.ids ≡ map (job_id l.project) (take l.job-index l.jobs)
