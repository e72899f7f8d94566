use Rattle.rb_inventory.proofs.Sound.{nodes_are_sound_law}
use Rattle.rb_inventory.proofs.laws.nodes_are_sound.Goals as goal

pub returns : goal.returns
returns c = nodes_are_sound_law
