use Rattle.rb_log.proofs.TickRows as law
use Rattle.rb_log.proofs.laws.due_is_fired.Goals as goal

pub returns : goal.returns
returns c = law.due_is_fired c.next_is_least.ensures
