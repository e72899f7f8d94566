use Rattle.rb_plan.proofs.AcceptedSound.{accepted_sound}
use Rattle.rb_plan.proofs.laws.accepted_is_sound.Goals as goal

pub returns : goal.returns
returns c = accepted_sound
