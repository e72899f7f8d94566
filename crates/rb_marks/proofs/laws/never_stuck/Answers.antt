use Rattle.rb_marks.proofs.Stuck as stuck
use Rattle.rb_marks.proofs.laws.never_stuck.Goals as goal

pub returns : goal.returns
returns c = stuck.never_stuck
