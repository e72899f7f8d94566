use Rattle.rb_plan.proofs.AcceptedSound.{accepted_sound}
use Rattle.rb_log.proofs.MarkLaws as law
use Rattle.rb_log.proofs.PlanLaws.{plans_are_sound}
use Rattle.rb_log.proofs.SlotLaws.{slots_are_bounded}
use Rattle.rb_log.proofs.laws.marks_are_legal.Goals as goal

pub returns : goal.returns
returns c = law.marks_are_legal slots_are_bounded (plans_are_sound accepted_sound)
