use Rattle.rb_expand.proofs.Cutting.{pieces_are_cut}
use Rattle.rb_expand.proofs.laws.pieces_are_cut.Goals as goal

pub returns : goal.returns
returns c = pieces_are_cut
