use Rattle.rb_plan.proofs.NoJobs.{no_job}
use Rattle.rb_plan.proofs.laws.no_job_is_exact.Goals as goal

pub returns : goal.returns
returns c = no_job
