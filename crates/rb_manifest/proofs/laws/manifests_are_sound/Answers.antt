use Rattle.rb_manifest.proofs.Sound as law
use Rattle.rb_manifest.proofs.laws.manifests_are_sound.Goals as goal

pub returns : goal.returns
returns c = law.manifests_are_sound
