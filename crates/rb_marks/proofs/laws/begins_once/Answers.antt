use Rattle.rb_marks.proofs.Once as once
use Rattle.rb_marks.proofs.laws.begins_once.Goals as goal

pub returns : goal.returns
returns c = once.begins_once
