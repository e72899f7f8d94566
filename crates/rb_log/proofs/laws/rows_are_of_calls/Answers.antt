use Rattle.rb_log.proofs.KindLaws as law
use Rattle.rb_log.proofs.laws.rows_are_of_calls.Goals as goal

pub returns : goal.returns
returns c = law.rows_are_of_calls
