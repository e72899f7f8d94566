use Rattle.rb_door.proofs.AllAnswered as law
use Rattle.rb_door.proofs.laws.first_are_answered.Goals as goal

pub returns : goal.returns
returns c = law.first_are_answered c.next_is_one.ensures
