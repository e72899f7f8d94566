use Rattle.rb_job.proofs.Unlike.{paths_differ_law}
use Rattle.rb_job.proofs.laws.paths_differ.Goals as goal

pub returns : goal.returns
returns c = paths_differ_law
