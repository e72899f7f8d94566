-- What a call of the demo asks of the desk before it, and tells of the desk behind it.
use Rattle.std.specs.Prelude.{◌≡◌, ◌≤◌, ◌<◌, ◌+◌, ℕ, Bool, List, [], ◌∷◌, length, reverse, Contains, if◌then◌else◌}
use Rattle.rb_causes.specs.declared.row.Row.{Row}
use Rattle.rb_log.specs.Legal.{Rights}
use Rattle.rb_log.specs.Moves.{Moved, adds}
use Rattle.rb_log.specs.Told.{Told}
use Rattle.rb_log.specs.declared.answer.Answer.TheVariants.{Imported}
use Rattle.rb_log.specs.declared.answer.ImportedJob.{ImportedJob}
use Rattle.rb_work.specs.Works.{Outside}
use Rattle.rb_demo.specs.Rounds.{Round, IsRound, refused_in}
use Rattle.rb_demo.specs.Settings.{Setting}

-- an import that is done as this row
abbrev pub Imports : Row → Moved → Type 0
Imports row m =
    (version : ℕ) × (jobs : List ImportedJob) × (m ≡ adds 1 (Imported version jobs) row)

-- A desk of this setting with this log, whose rows come newest first.
pub record IsOn (d : Setting) (past : List Row) (told : Told) : Type 0 where
  pub log : reverse told.log ≡ past
  pub room : told.room ≡ d.room

-- of two runs, by whether each was accepted
abbrev pub refusals : Bool → Bool → ℕ
refusals ann bob = (if ann then 0 else 1) + (if bob then 0 else 1)

-- Worker 0 may ask, and a door is open.
pub record AreReadyRights (rights : Rights) : Type 0 where
  pub worker : Contains rights.workers 0
  pub door : 0 < length rights.doors

-- A round of a job in which so many runs are refused, and behind it the worker may ask.
pub record PlaysRound (job : List ℕ) (old new : Outside) (count : ℕ) : Type 0 where
  pub round : Round
  pub is : IsRound job old new round
  pub refused : count ≡ refused_in (round ∷ [])
  pub few : count ≤ 2
  pub ready : AreReadyRights new.clerk.rights
