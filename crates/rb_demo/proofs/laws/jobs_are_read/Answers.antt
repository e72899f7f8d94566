use Rattle.rb_demo.proofs.JobsRead.{jobs_read}
use Rattle.rb_demo.proofs.laws.jobs_are_read.Goals as goal

pub returns : goal.returns
returns c = jobs_read
