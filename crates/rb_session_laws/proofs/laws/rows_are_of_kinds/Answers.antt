use Rattle.rb_session_laws.proofs.Begun as law
use Rattle.rb_session_laws.proofs.laws.rows_are_of_kinds.Goals as goal

pub returns : goal.returns
returns g c =
    law.rows_are_of_kinds c.rows_are_of_calls.ensures c.acts_are_true.ensures _
    c.courses_act.ensures
