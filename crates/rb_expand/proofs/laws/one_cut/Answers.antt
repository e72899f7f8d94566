use Rattle.rb_expand.proofs.Cutting.{one_cut}
use Rattle.rb_expand.proofs.laws.one_cut.Goals as goal

pub returns : goal.returns
returns c = one_cut
