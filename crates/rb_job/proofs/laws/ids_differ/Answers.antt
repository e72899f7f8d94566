use Rattle.rb_job.proofs.Unlike.{ids_differ_law}
use Rattle.rb_job.proofs.laws.ids_differ.Goals as goal

pub returns : goal.returns
returns c = ids_differ_law
