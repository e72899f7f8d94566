use Rattle.rb_log.proofs.WithdrawalLaws as law
use Rattle.rb_log.proofs.laws.clauses_are_shown.Goals as goal

pub returns : goal.returns
returns c = law.clauses_are_shown
