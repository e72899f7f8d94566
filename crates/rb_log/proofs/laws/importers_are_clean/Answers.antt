use Rattle.rb_log.proofs.HeldLaws as law
use Rattle.rb_log.proofs.laws.importers_are_clean.Goals as goal

pub returns : goal.returns
returns c = law.importers_are_clean
