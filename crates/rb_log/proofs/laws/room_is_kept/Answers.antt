use Rattle.rb_plan.proofs.AcceptedSound.{accepted_sound}
use Rattle.rb_log.proofs.AllTurns as law
use Rattle.rb_log.proofs.PlanLaws.{plans_are_sound, leaves_are_sound}
use Rattle.rb_log.proofs.SlotLaws.{slots_are_bounded}
use Rattle.rb_log.proofs.laws.room_is_kept.Goals as goal

pub returns : goal.returns
returns c = law.room_is_kept slots_are_bounded (plans_are_sound accepted_sound)
    (leaves_are_sound accepted_sound)
