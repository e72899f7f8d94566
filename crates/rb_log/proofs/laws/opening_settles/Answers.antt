use Rattle.rb_log.proofs.OpeningLaws as law
use Rattle.rb_log.proofs.laws.opening_settles.Goals as goal

pub returns : goal.returns
returns c = law.opening_settles
