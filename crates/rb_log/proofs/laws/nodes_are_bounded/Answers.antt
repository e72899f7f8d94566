use Rattle.rb_log.proofs.MarkCounts.{first_below}
use Rattle.rb_log.proofs.laws.nodes_are_bounded.Goals as goal

pub returns : goal.returns
returns c = first_below
