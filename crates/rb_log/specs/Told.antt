-- What a clerk tells of its desk, and what one call does to it.
use Rattle.std.specs.Prelude.{◌≡◌, ◌≤◌, ℕ, Bool, true, false, List, [], ◌∷◌, ◌++◌, length, reverse, nat_eq, if◌then◌else◌}
use Rattle.rb_causes.specs.Causes.{Rose}
use Rattle.rb_causes.specs.declared.row.Row.{Row}
use Rattle.rb_log.specs.Sums.{without, without_leaf}
use Rattle.rb_log.specs.Legal.{Rights, IsLegalLog}
use Rattle.rb_log.specs.Records.{Record, IsTrueRecord}
use Rattle.rb_log.specs.declared.answer.Answer.{Answer}
use Rattle.rb_log.specs.declared.answer.Answer.TheVariants as answer
use Rattle.rb_log.specs.declared.answer.Kept.TheVariants.{Fault}
use Rattle.rb_log.specs.declared.call.Call.{Call}
use Rattle.rb_log.specs.declared.call.Call.TheVariants.{Report, CloseDoor}
use Rattle.rb_log.specs.declared.task.OpenLeaf.{OpenLeaf}

-- its log and room, its count of store faults, what may be asked of it, the numbers, from 1, of its
-- own rows, and by which numbers it is known from others: no call changes these
pub record Told : Type 0 where
  pub log : List Row
  pub room : ℕ
  pub faults : ℕ
  pub rights : Rights
  pub own : List ℕ
  pub who : List ℕ

-- xs begins ys
abbrev pub IsBeginning : List Row → List Row → Type 0
IsBeginning xs ys = (more : List Row) × (ys ≡ xs ++ more)

-- a task's leaf may be reported from now on
abbrev pub with_task : Answer → List OpenLeaf → List OpenLeaf
with_task (answer.Task t) leaves = leaves ++ t.claimed ∷ []
with_task other leaves = leaves

-- a report takes its leaf, and the end of a door that door
abbrev pub rights_after : Call → Answer → Rights → Rights
rights_after (Report done at) a rights =
    record rights { leaves = without_leaf done.claimed rights.leaves }
rights_after (CloseDoor door at) a rights = record rights { doors = without door rights.doors }
rights_after other a rights = record rights { leaves = with_task a rights.leaves }

-- the number of the row that a record adds
abbrev pub added : Record → List ℕ
added r = if nat_eq r.before r.after then [] else r.after ∷ []

-- a call that was answered when so many rows stood, and after which the log is this
abbrev pub record_of : Call → Answer → ℕ → List Row → Record
record_of call a before log =
    record { call = call; answer = a; before = before; after = length log }

-- it tells of a fault of the store
abbrev pub tells_fault : Answer → Bool
tells_fault answer.StoreFault = true
tells_fault (answer.Reported Fault) = true
tells_fault (answer.DoorClosed Fault) = true
tells_fault other = false

-- One call is one true record of the log that is then told, which is legal and within the room. A
-- law of a trait would have to hold of values that no desk has, so both stand here. Others may act
-- on a clerk's desk between two of its calls, and their faults count too: so the count of faults
-- may rise where none is told.
pub record Acts (old new : Told) (call : Call) (a : Answer) : Type 0 where
  pub before : ℕ
  pub later : length old.log ≤ before
  pub log : IsBeginning old.log new.log
  pub true_record : IsTrueRecord new.log old.room (record_of call a before new.log)
  pub legal : IsLegalLog (reverse new.log)
  pub within : length new.log ≤ new.room
  pub room : new.room ≡ old.room
  pub rights : new.rights ≡ rights_after call a old.rights
  pub own : new.own ≡ old.own ++ added (record_of call a before new.log)
  pub who : new.who ≡ old.who
  pub faults : old.faults ≤ new.faults
  pub cause : tells_fault a ≡ true → Rose old.faults new.faults
