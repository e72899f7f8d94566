use Rattle.rb_plan.proofs.SoundRuns.{nodes_differ}
use Rattle.rb_plan.proofs.laws.nodes_differ.Goals as goal

pub returns : goal.returns
returns c = nodes_differ
