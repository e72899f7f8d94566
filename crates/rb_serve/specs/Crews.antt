-- What `serve` does, by how far it comes.
use Rattle.std.specs.Prelude.{◌≡◌, ◌⊎◌, ℕ, ℤ, List, [], length, Option, Some, None, Result, Ok, Err}
use Rattle.rb_acl.specs.declared.policy.Caller.{Caller}
use Rattle.rb_api.specs.declared.token.Token.{Token}
use Rattle.rb_causes.specs.Sinks.{SinkState}
use Rattle.rb_causes.specs.declared.row.Row.{Row}
use Rattle.rb_command.specs.Lines.{memory_line, usage_line}
use Rattle.rb_desk.specs.DeskState.{DeskState}
use Rattle.rb_desk.specs.Opening.{IsOpenCause, Opens, asked_of}
use Rattle.rb_desk.specs.declared.open_err.OpenErr.{OpenErr}
use Rattle.rb_door.specs.Exchanges.{Moments}
use Rattle.rb_manifest.specs.declared.manifest.Manifest.{Manifest}
use Rattle.rb_serve.specs.Roles.{Senses}
use Rattle.rb_serve.specs.Served.{IsUncalled, Serves}
use Rattle.rb_serve.specs.Words.{CrewWords, crew_words}
use Rattle.rb_session.specs.Fetching.{AllHad, EndsBy, ShelfSight, StopsAtFile, stop_unread}
use Rattle.rb_session.specs.Lines.{stop_with}
use Rattle.rb_session.specs.declared.place.Document.{Document}
use Rattle.rb_session.specs.declared.unread.Unread.{Unread}
use Rattle.rb_session_top.specs.Stories.{stop_unopened}
use Rattle.rb_tables.specs.Tables.{most_rows}

-- Its words are no server's; a file was not had; memory was wanting before a desk was opened; no
-- desk was opened; or one was, and these documents were to be imported.
pub data Reach : Type 0 where
  NoForm : Reach
  Unfetched : List ℕ → Unread → Reach
  Wanting : Reach
  Unopened : OpenErr → Reach
  Opened : Manifest → List Document → Reach

-- no desk is given back, and no line and no spawner was called
pub record IsUnused {L S K : Type 0} (lines lines' : List L) (spawners spawners' : List S)
    (given : Result (DeskState K) K) : Type 0 where
  pub keeper : K
  pub given_is : given ≡ Err keeper
  pub uncalled : IsUncalled lines lines' spawners spawners'

-- why no desk was opened
pub record IsUnopened {K : Type 0} (rows : K → Option (List Row)) (faults : K → ℕ)
    (may_be : Moments) (doors workers draw : ℕ) (keeper : K) (given : Result (DeskState K) K)
    (e : OpenErr) : Type 0 where
  pub at : ℤ
  pub moment : may_be at
  pub back : K
  pub given_is : given ≡ Err back
  pub cause : IsOpenCause rows faults keeper back (asked_of doors workers draw most_rows at) e
  pub kept : rows back ≡ rows keeper

-- A desk was opened with the rows that were kept and the draw that was given, and served on.
pub record IsServed {L S K : Type 0} (rows : K → Option (List Row)) (faults : K → ℕ)
    (senses : Senses L S) (owner : Caller) (documents : List Document) (draw : ℕ) (keeper : K)
    (given : Result (DeskState K) K) (lines lines' : List L) (spawners spawners' : List S)
    (status : ℕ) (before after : SinkState) : Type 0 where
  pub at : ℤ
  pub moment : senses.may_be at
  pub opened : DeskState K
  pub opens : Opens rows keeper (asked_of (length lines) (length spawners) draw most_rows at) opened
  pub desk : DeskState K
  pub given_is : given ≡ Ok desk
  pub serves : Serves faults senses owner documents opened desk lines lines' spawners spawners'
      status before after

-- memory was wanting before a desk was opened
abbrev pub Wants : {L S K : Type 0} → List L → List L → List S → List S → Result (DeskState K) K
    → ℕ → SinkState → SinkState → Type 0
Wants lines lines' spawners spawners' given status before after =
    IsUnused lines lines' spawners spawners' given
    × EndsBy (stop_with 7 memory_line) status before after

-- no desk was opened, which is told
abbrev pub Fails : {L S K : Type 0} → (K → Option (List Row)) → (K → ℕ) → Moments → ℕ → K → List L
    → List L → List S → List S → Result (DeskState K) K → ℕ → SinkState → SinkState → OpenErr
    → Type 0
Fails rows faults may_be draw keeper lines lines' spawners spawners' given status before after e =
    IsUnopened rows faults may_be (length lines) (length spawners) draw keeper given e
    × IsUnused lines lines' spawners spawners' given
    × EndsBy (stop_unopened e) status before after

-- what happens behind the files: one of the three
abbrev pub OpensOrNot : {L S K : Type 0} → (K → Option (List Row)) → (K → ℕ) → Senses L S → Caller
    → List Document → ℕ → K → Result (DeskState K) K → List L → List L → List S → List S → ℕ
    → SinkState → SinkState → Type 0
OpensOrNot rows faults senses owner documents draw keeper given lines lines' spawners spawners'
    status before after =
    Wants lines lines' spawners spawners' given status before after
    ⊎ ((e : OpenErr) × Fails rows faults senses.may_be draw keeper lines lines' spawners spawners'
    given status before after e)
    ⊎ IsServed rows faults senses owner documents draw keeper given lines lines' spawners
    spawners' status before after

-- ---- all of it

-- what it looks at beside its keeper
pub record CrewSight (L S : Type 0) : Type 0 where
  pub shelf : ShelfSight
  pub lines : List L
  pub spawners : List S
  pub sink : SinkState

abbrev pub crew_sight : {L S : Type 0} → ShelfSight → List L → List S → SinkState → CrewSight L S
crew_sight shelf lines spawners sink =
    record { shelf = shelf; lines = lines; spawners = spawners; sink = sink }

-- the words are a server's, of this manifest
abbrev pub IfCrew : List (List ℕ) → (List ℕ → Type 0) → Type 0
IfCrew words Is = (c : CrewWords) × (crew_words words ≡ Some c) × Is c.manifest

-- What happened, by how far it came, and what was told of it: the status, and the line that says
-- what ended it, or a part of that where the sink failed or wanted memory.
abbrev pub Happened : {L S K : Type 0} → (K → Option (List Row)) → (K → ℕ)
    → (List Token → Senses L S) → List (List ℕ) → ℕ → K → Result (DeskState K) K
    → CrewSight L S → CrewSight L S → ℕ → Reach → Type 0
Happened rows faults senses words draw keeper given old new status NoForm =
    (crew_words words ≡ None) × IsUnused old.lines new.lines old.spawners new.spawners given
    × (new.shelf ≡ old.shelf) × EndsBy (stop_with 2 usage_line) status old.sink new.sink
Happened rows faults senses words draw keeper given old new status (Unfetched file unread) =
    IfCrew words (λ name. StopsAtFile old.shelf new.shelf name file unread)
    × IsUnused old.lines new.lines old.spawners new.spawners given
    × EndsBy (stop_unread file unread) status old.sink new.sink
Happened rows faults senses words draw keeper given old new status Wanting =
    Wants old.lines new.lines old.spawners new.spawners given status old.sink new.sink
Happened rows faults senses words draw keeper given old new status (Unopened e) =
    Fails rows faults (senses []).may_be draw keeper old.lines new.lines old.spawners
    new.spawners given status old.sink new.sink e
Happened rows faults senses words draw keeper given old new status (Opened m documents) =
    IfCrew words (λ name. AllHad old.shelf.files name m documents)
    × IsServed rows faults (senses m.tokens) m.owner documents draw keeper given old.lines
    new.lines old.spawners new.spawners status old.sink new.sink
