use Rattle.rb_tcp.proofs.Bounded.{bounded}
use Rattle.rb_tcp.proofs.laws.callers_are_bounded.Goals as goal

pub returns : goal.returns
returns c = bounded
