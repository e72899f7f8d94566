use Rattle.rb_top.proofs.Skips.{skips_change_nothing}
use Rattle.rb_top.proofs.laws.skips_change_nothing.Goals as goal

pub returns : goal.returns
returns c = skips_change_nothing
