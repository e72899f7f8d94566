use Rattle.rb_log.proofs.TaskLaws as law
use Rattle.rb_log.proofs.laws.tasks_are_claimed.Goals as goal

pub returns : goal.returns
returns c = law.tasks_are_claimed
