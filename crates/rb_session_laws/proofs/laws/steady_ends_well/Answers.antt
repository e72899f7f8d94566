use Rattle.rb_session_laws.proofs.Well as law
use Rattle.rb_session_laws.proofs.laws.steady_ends_well.Goals as goal

pub returns : goal.returns
returns g c =
    law.steady_ends_well _ c.beginnings_are_legal.ensures c.acts_are_true.ensures
    c.courses_act.ensures
