use Rattle.rb_demo.proofs.WorldRead.{world_read}
use Rattle.rb_demo.proofs.laws.world_is_demo.Goals as goal

pub returns : goal.returns
returns c = world_read c.nodes_are_read.ensures
