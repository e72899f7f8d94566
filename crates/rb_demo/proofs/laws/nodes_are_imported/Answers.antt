use Rattle.rb_demo.proofs.Imported.{nodes_imported}
use Rattle.rb_demo.proofs.laws.nodes_are_imported.Goals as goal

pub returns : goal.returns
returns c = nodes_imported c.nodes_are_read.ensures
