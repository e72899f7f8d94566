use Rattle.rb_session_laws.proofs.Asked as law
use Rattle.rb_session_laws.proofs.laws.rows_are_asked.Goals as goal

pub returns : goal.returns
returns g c = law.rows_are_asked _ c.courses_act.ensures c.acts_are_true.ensures
