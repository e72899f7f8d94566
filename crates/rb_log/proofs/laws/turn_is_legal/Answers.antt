use Rattle.rb_plan.proofs.AcceptedSound.{accepted_sound}
use Rattle.rb_log.proofs.AllTurns as law
use Rattle.rb_log.proofs.PlanLaws.{plans_are_sound}
use Rattle.rb_log.proofs.SlotLaws.{slots_are_bounded}
use Rattle.rb_log.proofs.laws.turn_is_legal.Goals as goal

pub returns : goal.returns
returns c = law.turn_is_legal slots_are_bounded (plans_are_sound accepted_sound)
