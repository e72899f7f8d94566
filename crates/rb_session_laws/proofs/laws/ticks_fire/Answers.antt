use Rattle.rb_session_laws.proofs.DueJobs as law
use Rattle.rb_session_laws.proofs.laws.ticks_fire.Goals as goal

pub returns : goal.returns
returns c =
    law.ticks_fire c.next_is_one.ensures c.none_is_none.ensures c.first_is_first.ensures
    c.due_is_least.ensures c.due_ask_is_kept.ensures
