use Rattle.std.proofs.Common.{◌≡◌, map, take}
use Rattle.rb_plan.specs.Access.{job_resource}
use Rattle.rb_looks.proofs.reading.job_resources.Given as goal

-- those of the jobs so far
abbrev pub invariant-loop-held : goal.invariant-loop-held
invariant-loop-held l = l.resources.items ≡ map job_resource (take l.held-index l.jobs)
