use Rattle.rb_log.proofs.FireTimes as law
use Rattle.rb_log.proofs.laws.fires_ascend.Goals as goal

pub returns : goal.returns
returns c = law.fires_ascend c.next_is_least.ensures
