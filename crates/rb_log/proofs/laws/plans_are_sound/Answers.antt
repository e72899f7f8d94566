use Rattle.rb_plan.proofs.AcceptedSound.{accepted_sound}
use Rattle.rb_log.proofs.PlanLaws.{plans_are_sound}
use Rattle.rb_log.proofs.laws.plans_are_sound.Goals as goal

pub returns : goal.returns
returns c = plans_are_sound accepted_sound
