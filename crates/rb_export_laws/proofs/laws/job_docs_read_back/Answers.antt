use Rattle.rb_export_laws.proofs.JobsAgain.{jobs_again}
use Rattle.rb_export_laws.proofs.laws.job_docs_read_back.Goals as goal

pub returns : goal.returns
returns c = jobs_again
