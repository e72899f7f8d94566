use Rattle.rb_log.proofs.RightLaws as law
use Rattle.rb_log.proofs.laws.rules_are_plain.Goals as goal

pub returns : goal.returns
returns c = law.rules_are_plain
