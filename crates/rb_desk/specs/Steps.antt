-- What one step does to a desk.
use Rattle.std.specs.Prelude.{◌≡◌, ◌≤◌, ◌<◌, ◌+◌, ℕ, true, false, nat_eq, [], map, length, reverse, Result, Ok, Err, if◌then◌else◌}
use Rattle.rb_causes.specs.Causes.{Rose}
use Rattle.rb_causes.specs.declared.trouble.Trouble.{Trouble}
use Rattle.rb_causes.specs.declared.trouble.Trouble.TheVariants.{Failed, NoMemory}
use Rattle.rb_log.specs.Sums.{numbers_below}
use Rattle.rb_log.specs.LogState.{log_state}
use Rattle.rb_log.specs.Legal.{IsFormed, rights_of}
use Rattle.rb_log.specs.Records.{IsTrueRecord}
use Rattle.rb_log.specs.Told.{Told, IsBeginning, record_of, tells_fault}
use Rattle.rb_log.specs.declared.answer.Answer.{Answer}
use Rattle.rb_log.specs.declared.answer.Answer.TheVariants as answer
use Rattle.rb_log.specs.declared.answer.Kept.{Kept}
use Rattle.rb_log.specs.declared.answer.Kept.TheVariants.{All, Fault, Memory}
use Rattle.rb_log.specs.declared.call.Call.{Call}
use Rattle.rb_log.specs.declared.call.Call.TheVariants.{Save}
use Rattle.rb_desk.specs.DeskState.{DeskState}

-- what became of an append
abbrev pub kept_of : {A : Type 0} → Result A Trouble → Kept
kept_of (Ok a) = All
kept_of (Err Failed) = Fault
kept_of (Err NoMemory) = Memory

-- what is answered where a row was not added
abbrev pub answer_to : Trouble → Answer
answer_to Failed = answer.StoreFault
answer_to NoMemory = answer.NoMemory

-- how many rows are kept after an answer: all where it says so, or where a row came with it, and
-- else those that were
abbrev pub saved_after : Answer → ℕ → ℕ → ℕ → ℕ
saved_after (answer.Reported All) saved before after = after
saved_after (answer.Reported Fault) saved before after = saved
saved_after (answer.Reported Memory) saved before after = saved
saved_after (answer.DoorClosed All) saved before after = after
saved_after (answer.DoorClosed Fault) saved before after = saved
saved_after (answer.DoorClosed Memory) saved before after = saved
saved_after answer.Saved saved before after = after
saved_after other saved before after = if nat_eq before after then saved else after

-- One step is one true record of the log, whose `before` is the log's length, and what it says of
-- the keeper holds: its count of faults rose where one is told, and else stays.
pub record Steps {K : Type 0} (faults : K → ℕ) (old new : DeskState K) (call : Call) (a : Answer)
    : Type 0 where
  pub formed : IsFormed call
  pub log : IsBeginning old.log new.log
  pub true_record : IsTrueRecord new.log old.room (record_of call a (length old.log) new.log)
  pub room : new.room ≡ old.room
  pub saved : new.saved ≡ saved_after a old.saved (length old.log) (length new.log)
  pub later : faults old.keeper ≤ faults new.keeper
  pub cause : tells_fault a ≡ true → Rose (faults old.keeper) (faults new.keeper)
  pub steady : tells_fault a ≡ false → faults new.keeper ≡ faults old.keeper
  pub unsaved : a ≡ answer.StoreFault → call ≡ Save → new.saved < length new.log

-- what a desk tells to those who call it on one thread: all its rows are their own, and nobody else
-- calls it
abbrev pub told_of : {K : Type 0} → (K → ℕ) → DeskState K → Told
told_of faults d = record {
  log = d.log;
  room = d.room;
  faults = faults d.keeper;
  rights = rights_of (log_state (reverse d.log));
  own = map (λ n. n + 1) (numbers_below (length d.log));
  who = [];
}
