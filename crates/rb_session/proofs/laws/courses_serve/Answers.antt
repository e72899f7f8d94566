use Rattle.rb_session.proofs.Guests as law
use Rattle.rb_session.proofs.laws.courses_serve.Goals as goal

pub returns : goal.returns
returns g c = law.courses_serve c.acts_are_true.ensures c.turns_stay_true.ensures c.talks_follow.ensures _
