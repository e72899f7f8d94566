use Rattle.rb_demo.proofs.Chain.{demo_imported}
use Rattle.rb_demo.proofs.laws.demo_is_imported.Goals as goal

pub returns : goal.returns
returns c = demo_imported c.nodes_are_imported.ensures c.policies_are_imported.ensures c.jobs_are_imported.ensures
