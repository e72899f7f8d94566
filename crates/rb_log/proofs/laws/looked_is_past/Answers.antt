use Rattle.rb_log.proofs.HeldLaws as law
use Rattle.rb_log.proofs.laws.looked_is_past.Goals as goal

pub returns : goal.returns
returns c = law.looked_is_past
