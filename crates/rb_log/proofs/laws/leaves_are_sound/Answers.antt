use Rattle.rb_plan.proofs.AcceptedSound.{accepted_sound}
use Rattle.rb_log.proofs.PlanLaws.{leaves_are_sound}
use Rattle.rb_log.proofs.laws.leaves_are_sound.Goals as goal

pub returns : goal.returns
returns c = leaves_are_sound accepted_sound
