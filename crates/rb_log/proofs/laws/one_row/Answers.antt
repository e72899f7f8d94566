use Rattle.rb_log.proofs.TaskLaws as law
use Rattle.rb_log.proofs.laws.one_row.Goals as goal

pub returns : goal.returns
returns c = law.one_row
