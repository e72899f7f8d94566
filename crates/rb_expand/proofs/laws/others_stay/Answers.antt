use Rattle.rb_expand.proofs.Cutting.{others_stay}
use Rattle.rb_expand.proofs.laws.others_stay.Goals as goal

pub returns : goal.returns
returns c = others_stay
