-- A session for which all is there ends well.
use Rattle.std.specs.Prelude.{
  ◌≡◌,
  ◌⊎◌,
  ◌≤◌,
  ◌∷◌,
  ◌++◌,
  ℕ,
  ℤ,
  true,
  List,
  [],
  length,
  reverse,
  Option,
  Some,
  None,
  option_to_list,
}
use Rattle.rb_acl.specs.declared.policy.Caller.{Caller}
use Rattle.rb_causes.specs.Callers.{Callers}
use Rattle.rb_causes.specs.declared.row.Row.{Row}
use Rattle.rb_causes.specs.declared.shelf.File.{File}
use Rattle.rb_desk.specs.Opening.{IsGoodStore, has_room_to_open, opening_row}
use Rattle.rb_door.specs.Exchanges.{Moments}
use Rattle.rb_log.specs.LogState.{log_state}
use Rattle.rb_log.specs.Moves.{Moved}
use Rattle.rb_log.specs.Readings.{Reading}
use Rattle.rb_log.specs.Turn.{MayRead, turn_of}
use Rattle.rb_log.specs.declared.answer.Answer.{Answer}
use Rattle.rb_log.specs.declared.answer.Answer.TheVariants as answer
use Rattle.rb_manifest.specs.declared.manifest.Manifest.{Manifest}
use Rattle.rb_session.specs.Documents.{import_of}
use Rattle.rb_session.specs.Fetching.{AllHad}
use Rattle.rb_session.specs.Visits.{most_callers}
use Rattle.rb_session.specs.declared.place.Document.{Document}
use Rattle.rb_session_top.specs.Sessions.{Session, session_asked}
use Rattle.rb_session_top.specs.Sights.{Given, Sight}
use Rattle.rb_session_top.specs.Words.{manifest_words}
use Rattle.rb_tables.specs.Tables.{most_rows}

abbrev pub IsTaken : Answer → Type 0
IsTaken (answer.Imported version jobs) = Unit {0}
IsTaken other = ⊥

-- Each of these documents is taken, one after another, whenever it is imported and whatever the
-- readers may give: behind these rows, newest first, and those that the imports add.
abbrev pub AreTaken : Moments → Caller → List Row → List Document → Type 0
AreTaken may_be owner past [] = Unit {0}
AreTaken may_be owner past (d ∷ ds) =
    (at : ℤ) (reading : Reading) → may_be at
    → MayRead (log_state past) (import_of owner d at) reading →
    let moved : Moved = turn_of reading past most_rows (import_of owner d at) in
    IsTaken moved.answer × AreTaken may_be owner (option_to_list moved.row ++ past) ds

-- no fault was counted
pub record IsSteady (s : Sight) : Type 0 where
  pub shelf : s.shelf.faults ≡ 0
  pub line : s.line.faults ≡ 0
  pub keeper : s.kept.faults ≡ 0

-- the line tells its callers, who are no more than are served
abbrev pub AreFew : Option Callers → Type 0
AreFew None = ⊥
AreFew (Some c) = length c.waiting ≤ most_callers

-- All is there that a session needs: its words, its files, rows that are a legal log with room
-- behind it, documents that are taken behind the opening, and no caller too many.
pub record IsProvided (may_be : Moments) (words : List (List ℕ)) (draw : ℕ) (s : Sight)
    : Type 0 where
  pub name : List ℕ
  pub manifest : Manifest
  pub documents : List Document
  pub files : List File
  pub held : List Row
  pub form : manifest_words words ≡ Some name
  pub told : s.shelf.files ≡ Some files
  pub had : AllHad (Some files) name manifest documents
  pub rows : s.kept.rows ≡ Some held
  pub good : IsGoodStore held
  pub room : (at : ℤ) → has_room_to_open held (session_asked draw at) ≡ true
  pub taken : (at : ℤ) → may_be at → AreTaken may_be manifest.owner
      (opening_row held (session_asked draw at) ∷ reverse held) documents
  pub few : AreFew s.line.callers

-- Where nothing outside fails and all is there, a session ends with 0, or memory was wanting.
abbrev pub SteadyEndsWell : Moments → Type 0
SteadyEndsWell may_be =
    (words : List (List ℕ)) (draw : ℕ) (old new : Sight) (status : ℕ) (given : Given)
    → Session may_be words draw old new status given → IsProvided may_be words draw old
    → IsSteady new → (status ≡ 0) ⊎ (status ≡ 7)
