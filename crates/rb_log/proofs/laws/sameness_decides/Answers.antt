use Rattle.rb_log.proofs.SamenessLaws.{job_tells}
use Rattle.rb_log.proofs.laws.sameness_decides.Goals as goal

pub returns : goal.returns
returns c = job_tells
