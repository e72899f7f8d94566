use Rattle.rb_marks.proofs.Bounds as bounds
use Rattle.rb_marks.proofs.laws.keeps_bound.Goals as goal

pub returns : goal.returns
returns c = bounds.keeps_bound
