use Rattle.rb_door.proofs.AllAnswered as law
use Rattle.rb_door.proofs.laws.all_are_answered.Goals as goal

pub returns : goal.returns
returns c = law.all_are_answered c.hearing_tells.ensures
