use Rattle.rb_plan.proofs.AcceptedSound.{accepted_sound}
use Rattle.rb_log.proofs.TaskLaws as law
use Rattle.rb_log.proofs.PlanLaws.{plans_are_sound}
use Rattle.rb_log.proofs.SlotLaws.{slots_are_bounded}
use Rattle.rb_log.proofs.laws.open_once.Goals as goal

pub returns : goal.returns
returns c = law.open_once slots_are_bounded (plans_are_sound accepted_sound)
