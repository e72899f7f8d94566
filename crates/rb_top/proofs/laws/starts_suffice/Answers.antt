use Rattle.rb_top.proofs.Suffice.{starts_suffice}
use Rattle.rb_top.proofs.laws.starts_suffice.Goals as goal

pub returns : goal.returns
returns c = starts_suffice
