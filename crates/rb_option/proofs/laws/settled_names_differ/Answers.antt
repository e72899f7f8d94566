use Rattle.rb_option.proofs.Settled.{settled_names_differ}
use Rattle.rb_option.proofs.laws.settled_names_differ.Goals as goal

pub returns : goal.returns
returns c = settled_names_differ
