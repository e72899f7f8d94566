use Rattle.rb_session_laws.proofs.Begun as law
use Rattle.rb_session_laws.proofs.laws.programs_are_begun.Goals as goal

pub returns : goal.returns
returns g c =
    law.programs_are_begun c.begins_are_tasks.ensures c.acts_are_true.ensures
    c.turns_stay_true.ensures _ c.courses_run.ensures c.works_are_all.ensures
    c.courses_act.ensures
