-- What stays of a clerk's rights while it is asked.
use Rattle.std.specs.Prelude.{◌≡◌, ◌≤◌, Bool, true, false}
use Rattle.rb_log.specs.Told.{Told, IsBeginning}
use Rattle.rb_log.specs.declared.call.Call.{Call}
use Rattle.rb_log.specs.declared.call.Call.TheVariants as call

-- the call is the end of a door
abbrev pub ends_door : Call → Bool
ends_door (call.CloseDoor door at) = true
ends_door other = false

-- The log went on; the room stayed, for which workers and doors there may be a call, and which
-- clerk it is; and no fault of the store is taken back.
pub record GoesOn (old new : Told) : Type 0 where
  pub log : IsBeginning old.log new.log
  pub room : new.room ≡ old.room
  pub workers : new.rights.workers ≡ old.rights.workers
  pub doors : new.rights.doors ≡ old.rights.doors
  pub faults : old.faults ≤ new.faults
  pub who : new.who ≡ old.who
