use Rattle.rb_log.proofs.KindLaws as law
use Rattle.rb_log.proofs.laws.begins_are_tasks.Goals as goal

pub returns : goal.returns
returns c = law.begins_are_tasks
