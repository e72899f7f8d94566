use Rattle.rb_demo.proofs.Imported.{policies_imported}
use Rattle.rb_demo.proofs.laws.policies_are_imported.Goals as goal

pub returns : goal.returns
returns c = policies_imported c.policies_are_read.ensures
