use Rattle.rb_demo.proofs.Imported.{jobs_imported}
use Rattle.rb_demo.proofs.laws.jobs_are_imported.Goals as goal

pub returns : goal.returns
returns c = jobs_imported c.jobs_are_read.ensures
