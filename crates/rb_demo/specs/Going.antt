-- How the demo goes on: what is held stays, and there is room for each run that is still to come.
use Rattle.std.specs.Prelude.{◌≡◌, ◌≤◌, ◌<◌, ◌+◌, ◌*◌, ◌⊎◌, ℕ, List, length, reverse, codes}
use Rattle.rb_causes.specs.declared.row.Row.{Row}
use Rattle.rb_plan.specs.declared.world.Running.{Running}
use Rattle.rb_log.specs.LogState.{log_state, world_of, owed}
use Rattle.rb_log.specs.Legal.{IsLegalLog}
use Rattle.rb_log.specs.Told.{Told}
use Rattle.rb_log.specs.declared.answer.Answer.{Answer}
use Rattle.rb_log.specs.declared.answer.Answer.TheVariants as answer
use Rattle.rb_demo.specs.Rounds.{setting_of}
use Rattle.rb_demo.specs.Settings.{demo_world}

-- not for want of room
abbrev pub IsNotFull : Answer → Type 0
IsNotFull answer.Full = ⊥
IsNotFull other = Unit {0}

-- the id is that of one of the demo's jobs
abbrev pub IsDemoJob : List ℕ → Type 0
IsDemoJob job = (job ≡ codes "demo-1") ⊎ ((job ≡ codes "demo-2") ⊎ (job ≡ codes "demo-3"))

-- rows, and those that may still come whatever room is left
abbrev pub load : List Row → ℕ
load past = length past + owed (log_state past)

-- A log, newest first, behind the demo's imports and so many accepted runs. Its world is the
-- demo's, whatever runs in it. Behind the imports there are four rows and a door that is owed a
-- Close; a run needs room for at most 200,002 more, and its Accept has few bytes.
pub record IsGoing (nodes accepted : ℕ) (past : List Row) : Type 0 where
  pub legal : IsLegalLog past
  pub opened : 0 < length past
  pub running : List Running
  pub world : world_of (log_state past)
      ≡ record (demo_world (setting_of nodes)) { running = running }
  pub rows : load past ≤ 5 + accepted * 200002
  pub bytes : (log_state past).counted ≤ 3000000 + accepted * 100

-- A desk of the demo's room, on which at most so many runs were accepted.
pub record IsDemoDesk (most : ℕ) (told : Told) : Type 0 where
  pub nodes : ℕ
  pub least : 1 ≤ nodes
  pub few : nodes ≤ 1000
  pub accepted : ℕ
  pub within : accepted ≤ most
  pub going : IsGoing nodes accepted (reverse told.log)
  pub room : told.room ≡ 1000000
