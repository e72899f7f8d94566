use Rattle.rb_serve_laws.proofs.Ended as law
use Rattle.rb_serve_laws.proofs.laws.zero_has_ended.Goals as goal

pub returns : goal.returns
returns g c =
    law.zero_has_ended c.claim_answers.ensures c.rows_are_of_calls.ensures c.acts_are_true.ensures
    c.turns_stay_true.ensures c.talks_follow.ensures c.begins_are_tasks.ensures
    c.pump_laws.ensures _ _
