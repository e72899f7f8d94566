use Rattle.rb_demo.proofs.NodesRead.{nodes_are_read_law}
use Rattle.rb_demo.proofs.laws.nodes_are_read.Goals as goal

pub returns : goal.returns
returns c = nodes_are_read_law c.meant_is_read.ensures
