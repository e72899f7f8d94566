use Rattle.rb_session_laws.proofs.Ended as law
use Rattle.rb_session_laws.proofs.laws.zero_has_ended.Goals as goal

pub returns : goal.returns
returns g c =
    law.zero_has_ended c.claim_answers.ensures c.acts_are_true.ensures _ c.courses_act.ensures
