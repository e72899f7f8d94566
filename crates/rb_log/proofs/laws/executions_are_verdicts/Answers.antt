use Rattle.rb_log.proofs.AcceptLaws as law
use Rattle.rb_log.proofs.laws.executions_are_verdicts.Goals as goal

pub returns : goal.returns
returns c = law.executions_are_verdicts
