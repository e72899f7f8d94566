use Rattle.rb_session.proofs.Silent as law
use Rattle.rb_session.proofs.laws.works_are_all.Goals as goal

pub returns : goal.returns
returns g c =
    law.works_are_all c.begins_are_tasks.ensures c.acts_are_true.ensures
    c.turns_stay_true.ensures c.calls_are_the_callers.ensures _
