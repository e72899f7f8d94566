use Rattle.rb_log.proofs.TickRows as law
use Rattle.rb_log.proofs.laws.fired_in_time.Goals as goal

pub returns : goal.returns
returns c = law.fired_in_time c.next_is_least.ensures
