use Rattle.rb_plan.proofs.AcceptedSound.{accepted_sound}
use Rattle.rb_log.proofs.TaskRows as law
use Rattle.rb_log.proofs.PlanLaws.{plans_are_sound}
use Rattle.rb_log.proofs.SlotLaws.{slots_are_bounded}
use Rattle.rb_log.proofs.laws.tasks_are_begun.Goals as goal

pub returns : goal.returns
returns c = law.tasks_are_begun slots_are_bounded (plans_are_sound accepted_sound)
