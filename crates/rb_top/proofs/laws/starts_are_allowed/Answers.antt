use Rattle.rb_top.proofs.Allowed.{starts_are_allowed}
use Rattle.rb_top.proofs.laws.starts_are_allowed.Goals as goal

pub returns : goal.returns
returns c = starts_are_allowed
