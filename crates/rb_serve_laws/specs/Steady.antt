-- A server for which all is there ends well.
use Rattle.std.specs.Prelude.{◌≡◌, ◌⊎◌, ℕ, ℤ, true, List, ◌∷◌, length, reverse, All, Option, Some, Result}
use Rattle.rb_api.specs.declared.token.Token.{Token}
use Rattle.rb_causes.specs.Callers.{Callers}
use Rattle.rb_causes.specs.Causes.{Rose}
use Rattle.rb_causes.specs.Spawners.{ShownRuns}
use Rattle.rb_causes.specs.declared.row.Row.{Row}
use Rattle.rb_causes.specs.declared.shelf.File.{File}
use Rattle.rb_desk.specs.DeskState.{DeskState}
use Rattle.rb_desk.specs.Opening.{IsGoodStore, OpeningAsked, asked_of, has_room_to_open, opening_row}
use Rattle.rb_door.specs.Exchanges.{Moments}
use Rattle.rb_manifest.specs.declared.manifest.Manifest.{Manifest}
use Rattle.rb_serve.specs.Crews.{CrewSight, Happened, Reach}
use Rattle.rb_serve.specs.Roles.{OneRose, Senses, senses_of}
use Rattle.rb_serve.specs.Words.{CrewWords, crew_words}
use Rattle.rb_session.specs.Fetching.{AllHad}
use Rattle.rb_session.specs.declared.place.Document.{Document}
use Rattle.rb_session_laws.specs.Steady.{AreTaken}
use Rattle.rb_session_top.specs.Sights.{keeper_of}
use Rattle.rb_tables.specs.Tables.{most_rows}

-- What is promised of a call of `serve_top`: what happened, and that a status which blames an
-- object comes only where its count of faults rose.
pub record HasEnded {L S K : Type 0} (rows : K → Option (List Row)) (faults : K → ℕ)
    (line_faults : L → ℕ) (senses : List Token → Senses L S) (words : List (List ℕ)) (draw : ℕ)
    (keeper : K) (given : Result (DeskState K) K) (old new : CrewSight L S) (status : ℕ)
    : Type 0 where
  pub reach : Reach
  pub happened : Happened rows faults senses words draw keeper given old new status reach
  pub shelf_fault : status ≡ 4 → Rose old.shelf.faults new.shelf.faults
  pub line : status ≡ 5 → OneRose line_faults old.lines new.lines
  pub store : status ≡ 6 → Rose (faults keeper) (faults (keeper_of given))

-- what is asked of the opening of its desk
abbrev pub opening_asked : {L S : Type 0} → CrewSight L S → ℕ → ℤ → OpeningAsked
opening_asked s draw at = asked_of (length s.lines) (length s.spawners) draw most_rows at

-- All is there that a server needs: its words, its files, rows that are a legal log with room
-- behind it, and documents that are taken behind the opening.
pub record IsProvided {L S : Type 0} (may_be : Moments) (words : List (List ℕ)) (draw : ℕ)
    (kept : Option (List Row)) (s : CrewSight L S) : Type 0 where
  pub crew : CrewWords
  pub form : crew_words words ≡ Some crew
  pub manifest : Manifest
  pub documents : List Document
  pub files : List File
  pub told : s.shelf.files ≡ Some files
  pub had : AllHad (Some files) crew.manifest manifest documents
  pub held : List Row
  pub rows : kept ≡ Some held
  pub good : IsGoodStore held
  pub room : (at : ℤ) → has_room_to_open held (opening_asked s draw at) ≡ true
  pub taken : (at : ℤ) → may_be at → AreTaken may_be manifest.owner
      (opening_row held (opening_asked s draw at) ∷ reverse held) documents

-- no fault was counted, of the shelf, of any line and of the keeper
pub record IsSteady {L S : Type 0} (line_faults : L → ℕ) (keeper_faults : ℕ) (s : CrewSight L S)
    : Type 0 where
  pub shelf : s.shelf.faults ≡ 0
  pub lines : All (λ l. line_faults l ≡ 0) s.lines
  pub keeper : keeper_faults ≡ 0

-- Where nothing outside fails and all is there, a server ends with 0, or memory was wanting.
abbrev pub SteadyEndsWell : {K L S : Type 0} → (K → Option (List Row)) → (K → ℕ) → Moments
    → (L → Option Callers) → (L → ℕ) → (S → ShownRuns) → Type 0
SteadyEndsWell {K} {L} {S} rows faults may_be callers line_faults shown =
    (words : List (List ℕ)) (draw : ℕ) (keeper : K) (given : Result (DeskState K) K)
    (old new : CrewSight L S) (status : ℕ)
    → HasEnded rows faults line_faults
    (λ tokens. senses_of may_be tokens callers line_faults shown) words draw keeper given old new
    status
    → IsProvided may_be words draw (rows keeper) old
    → IsSteady line_faults (faults (keeper_of given)) new
    → (status ≡ 0) ⊎ (status ≡ 7)
