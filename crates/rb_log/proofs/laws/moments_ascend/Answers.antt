use Rattle.rb_log.proofs.MomentLaws as law
use Rattle.rb_log.proofs.laws.moments_ascend.Goals as goal

pub returns : goal.returns
returns c = law.moments_ascend
