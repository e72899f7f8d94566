use Rattle.rb_log.proofs.LatestLaws as law
use Rattle.rb_log.proofs.laws.latest_is_last.Goals as goal

pub returns : goal.returns
returns c = law.latest_is_last
