use Rattle.rb_log.proofs.LetLaws as law
use Rattle.rb_log.proofs.laws.accepted_may_be_run.Goals as goal

pub returns : goal.returns
returns c = law.accepted_may_be_run c.nodes_may_be_run.ensures
