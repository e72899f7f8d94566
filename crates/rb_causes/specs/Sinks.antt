-- What a sink shows of itself, and what was written to it.
use Rattle.std.specs.Prelude.{◌≡◌, ◌≤◌, ◌<◌, ◌⊎◌, ℕ, List, [], take, length, Option, Some, None, option_map, Result, Ok, Err}
use Rattle.rb_causes.specs.Causes.{Rose}
use Rattle.rb_causes.specs.Outside.{gained}
use Rattle.rb_causes.specs.declared.trouble.Trouble.{Trouble}
use Rattle.rb_causes.specs.declared.trouble.Trouble.TheVariants.{Failed, NoMemory}

-- All bytes that it has taken, where it tells them; how many faults there were; how often it wanted
-- memory itself; and how many bytes it had taken at its first failed write, where it tells that and
-- there was one.
pub record SinkState : Type 0 where
  pub taken : Option (List ℕ)
  pub faults : ℕ
  pub wants : ℕ
  pub at_fault : Option ℕ

-- the place of the first failed write, where one has failed now
abbrev pub failed_place : Option ℕ → Option (List ℕ) → Option ℕ
failed_place (Some place) taken = Some place
failed_place None taken = option_map length taken

-- The whole text was taken, and the count of faults stays.
pub record Wrote (text : List ℕ) (before after : SinkState) : Type 0 where
  pub taken : after.taken ≡ gained before.taken text
  pub faults : after.faults ≡ before.faults
  pub wants : before.wants ≤ after.wants
  pub at_fault : after.at_fault ≡ before.at_fault

-- The text was taken, and the write behind it failed: nothing was taken behind that.
pub record FailedBehind (text : List ℕ) (before after : SinkState) : Type 0 where
  pub taken : after.taken ≡ gained before.taken text
  pub faults : before.faults ≤ after.faults
  pub wants : before.wants ≤ after.wants
  pub failed : Rose before.faults after.faults
  pub at_fault : after.at_fault ≡ failed_place before.at_fault after.taken

-- The text was taken, and behind it the sink wanted memory, which is no fault.
pub record WantedBehind (text : List ℕ) (before after : SinkState) : Type 0 where
  pub taken : after.taken ≡ gained before.taken text
  pub faults : after.faults ≡ before.faults
  pub wants : before.wants ≤ after.wants
  pub wanted : Rose before.wants after.wants
  pub at_fault : after.at_fault ≡ before.at_fault

-- the text was taken, and then the sink did this
abbrev pub StoppedBehind : Trouble → List ℕ → SinkState → SinkState → Type 0
StoppedBehind Failed text before after = FailedBehind text before after
StoppedBehind NoMemory text before after = WantedBehind text before after

-- a prefix, and not the whole
abbrev pub IsProperPrefixOf : List ℕ → List ℕ → Type 0
IsProperPrefixOf prefix text = (n : ℕ) × (n < length text) × (prefix ≡ take n text)

-- A proper prefix of the text was taken, and then the sink did this.
pub record Cut (trouble : Trouble) (text : List ℕ) (before after : SinkState) : Type 0 where
  pub prefix : List ℕ
  pub proper : IsProperPrefixOf prefix text
  pub stopped : StoppedBehind trouble prefix before after

-- What one write did: it took some bytes from the front, at least one of a text that has any; or
-- none.
abbrev pub Takes : List ℕ → SinkState → SinkState → Result ℕ Trouble → Type 0
Takes text before after (Ok n) =
    (n ≤ length text) × (0 < length text → 0 < n) × Wrote (take n text) before after
Takes text before after (Err trouble) = StoppedBehind trouble [] before after

-- What writing a whole text did.
abbrev pub Writes : {T : Type 0} → List ℕ → SinkState → SinkState → Result T Trouble → Type 0
Writes text before after (Ok done) = Wrote text before after
Writes text before after (Err trouble) = Cut trouble text before after

-- The counts do not fall; and where no failed write was told before, nothing was taken behind the
-- first one.
pub record StopsAtFault (before after : SinkState) : Type 0 where
  pub faults : before.faults ≤ after.faults
  pub wants : before.wants ≤ after.wants
  pub stops : before.at_fault ≡ None
      → (after.at_fault ≡ None) ⊎ (after.at_fault ≡ option_map length after.taken)
