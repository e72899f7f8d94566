use Rattle.rb_manifest.proofs.CleanCallers as law
use Rattle.rb_manifest.proofs.laws.callers_are_clean.Goals as goal

pub returns : goal.returns
returns c = law.callers_are_clean
