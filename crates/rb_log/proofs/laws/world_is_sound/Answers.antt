use Rattle.rb_log.proofs.WorldLaws.{world_sound}
use Rattle.rb_log.proofs.laws.world_is_sound.Goals as goal

pub returns : goal.returns
returns c = world_sound
