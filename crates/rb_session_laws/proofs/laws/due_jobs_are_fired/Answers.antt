use Rattle.rb_session_laws.proofs.DueJobs as law
use Rattle.rb_session_laws.proofs.laws.due_jobs_are_fired.Goals as goal

pub returns : goal.returns
returns g c =
    law.due_jobs_are_fired c.beginnings_are_legal.ensures c.looked_is_past.ensures
    c.importers_are_clean.ensures c.caller_is_kept.ensures c.ticks_fire.ensures
    c.acts_are_true.ensures _ c.courses_act.ensures
