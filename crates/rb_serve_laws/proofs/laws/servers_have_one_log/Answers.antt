use Rattle.rb_serve_laws.proofs.OneLog as law
use Rattle.rb_serve_laws.proofs.laws.servers_have_one_log.Goals as goal

pub returns : goal.returns
returns g c =
    law.servers_have_one_log c.acts_are_true.ensures c.turns_stay_true.ensures
    c.talks_follow.ensures c.begins_are_tasks.ensures c.pump_laws.ensures _ _
