use Rattle.rb_log.proofs.JobLaws as law
use Rattle.rb_log.proofs.laws.jobs_stay.Goals as goal

pub returns : goal.returns
returns c = law.jobs_stay
