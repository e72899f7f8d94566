use Rattle.rb_wire.proofs.Somes.{requests_are_some}
use Rattle.rb_wire.proofs.laws.requests_are_some.Goals as goal

pub returns : goal.returns
returns c = requests_are_some
