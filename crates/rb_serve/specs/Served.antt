-- What was done on a board, from its opening with a desk to the end of all parts.
use Rattle.std.specs.Prelude.{◌≡◌, ◌⊎◌, ◌+◌, ℕ, List, [], ◌∷◌, ◌++◌, length, map, not, Option, Some, None, ◌||◌, if◌then◌else◌}
use Rattle.atomic_table.specs.Seated.{TableId}
use Rattle.rb_acl.specs.declared.policy.Caller.{Caller}
use Rattle.rb_board.specs.Boards.{HasClosed, PassValue, first_passes, seen_of, told_of_pass}
use Rattle.rb_board.specs.Plays.{opening_of}
use Rattle.rb_board.specs.declared.view.Opening.{Opening}
use Rattle.rb_causes.specs.Sinks.{SinkState}
use Rattle.rb_command.specs.Lines.{memory_line}
use Rattle.rb_desk.specs.DeskState.{DeskState}
use Rattle.rb_log.specs.Told.{Told}
use Rattle.rb_serve.specs.Roles.{HavePlayed, Senses}
use Rattle.rb_serve.specs.declared.crew_end.CrewEnd.{CrewEnd}
use Rattle.rb_session.specs.Fetching.{EndsBy}
use Rattle.rb_session.specs.Imports.{ImportsAll, ImportsStop}
use Rattle.rb_session.specs.Lines.{Stop, line_line, stop_with, store_line}
use Rattle.rb_session.specs.Statuses.{EndsAsTold, is_saved, is_unsaved}
use Rattle.rb_session.specs.declared.place.Document.{Document}
use Rattle.rb_session.specs.declared.saving.Saving.{Saving}
use Rattle.rb_session_top.specs.Sessions.{IsSaved}

-- ---- the imports

-- The last of the passes did this, and all others stand as they were.
pub record ByLast (passes passes' : List PassValue) (Did : Told → Told → Type 0) : Type 0 where
  pub others : List PassValue
  pub pass : PassValue
  pub left : PassValue
  pub was : passes ≡ others ++ pass ∷ []
  pub is : passes' ≡ others ++ left ∷ []
  pub did : Did (told_of_pass pass) (told_of_pass left)

-- by the last pass all documents were imported
abbrev pub HasImported : {L S : Type 0} → Senses L S → Caller → List Document → List PassValue
    → List PassValue → Type 0
HasImported senses owner documents passes passes' =
    ByLast passes passes' (ImportsAll senses.may_be owner documents)

-- by the last pass they were imported, but one was not taken: this is told
abbrev pub HasStopped : {L S : Type 0} → Senses L S → Caller → List Document → List PassValue
    → List PassValue → ℕ → SinkState → SinkState → Type 0
HasStopped senses owner documents passes passes' status before after =
    ByLast passes passes'
    (λ old new. ImportsStop senses.may_be owner documents old new status before after)

-- ---- all of it

-- The documents were imported, and then each part was played by its pass.
pub record HasServed {L S : Type 0} (senses : Senses L S) (owner : Caller)
    (documents : List Document) (passes passes' : List PassValue) (lines lines' : List L)
    (spawners spawners' : List S) (said : CrewEnd) : Type 0 where
  pub imported : List PassValue
  pub imports : HasImported senses owner documents passes imported
  pub played : HavePlayed senses imported passes' lines lines' spawners spawners' said

-- no line and no spawner was called
pub record IsUncalled {L S : Type 0} (lines lines' : List L) (spawners spawners' : List S)
    : Type 0 where
  pub lines_stand : lines' ≡ lines
  pub spawners_stand : spawners' ≡ spawners

-- The passes of a board that was opened so, one for each line and each spawner, did all this, and
-- the desk that is there at the end is that of all their calls.
pub record ServesOn {K L S : Type 0} (faults : K → ℕ) (senses : Senses L S) (owner : Caller)
    (documents : List Document) (opening : Opening) (lines lines' : List L)
    (spawners spawners' : List S) (said : CrewEnd) (desk : DeskState K) : Type 0 where
  pub board : TableId
  pub passes : List PassValue
  pub served : HasServed senses owner documents
      (first_passes board opening (length lines + length spawners)) passes lines lines'
      spawners spawners' said
  pub closed : HasClosed faults opening (map seen_of passes) desk

-- An import was not taken: no line and no spawner was called, and the desk is that of the imports.
pub record StopsOn {K L S : Type 0} (faults : K → ℕ) (senses : Senses L S) (owner : Caller)
    (documents : List Document) (opening : Opening) (lines lines' : List L)
    (spawners spawners' : List S) (desk : DeskState K) (status : ℕ) (before after : SinkState)
    : Type 0 where
  pub board : TableId
  pub passes : List PassValue
  pub stopped : HasStopped senses owner documents
      (first_passes board opening (length lines + length spawners)) passes status before after
  pub uncalled : IsUncalled lines lines' spawners spawners'
  pub closed : HasClosed faults opening (map seen_of passes) desk

-- Memory was wanting for a board or its passes: nothing was asked of the desk.
pub record WantsBoard {K L S : Type 0} (opening : Opening) (lines lines' : List L)
    (spawners spawners' : List S) (desk : DeskState K) (status : ℕ) (before after : SinkState)
    : Type 0 where
  pub log : desk.log ≡ opening.log
  pub uncalled : IsUncalled lines lines' spawners spawners'
  pub ends : EndsBy (stop_with 7 memory_line) status before after

-- ---- behind the board

-- what ended the server, by what is told of all parts and of its last Save: a fault of a line; of
-- the store; want of memory; or nothing did
abbrev pub crew_stop : CrewEnd → Saving → Option Stop
crew_stop end saved =
    if end.line_failed then Some (stop_with 5 line_line)
    else if end.store_failed || is_unsaved saved then Some (stop_with 6 store_line)
    else if end.wanting || not (is_saved saved) then Some (stop_with 7 memory_line)
    else None

-- The callers were served, and then one Save was asked of the desk.
pub record ServesCrew {K L S : Type 0} (faults : K → ℕ) (senses : Senses L S) (owner : Caller)
    (documents : List Document) (opening : Opening) (lines lines' : List L)
    (spawners spawners' : List S) (desk : DeskState K) (status : ℕ) (before after : SinkState)
    : Type 0 where
  pub said : CrewEnd
  pub served : DeskState K
  pub all : ServesOn faults senses owner documents opening lines lines' spawners spawners' said
      served
  pub saving : Saving
  pub saved : IsSaved faults served desk saving
  pub ends : EndsAsTold (crew_stop said saving) status before after

-- All that is done with a desk that was opened.
abbrev pub Serves : {K L S : Type 0} → (K → ℕ) → Senses L S → Caller → List Document
    → DeskState K → DeskState K → List L → List L → List S → List S → ℕ → SinkState → SinkState
    → Type 0
Serves faults senses owner documents old new lines lines' spawners spawners' status before after =
    WantsBoard (opening_of faults old) lines lines' spawners spawners' new status before after
    ⊎ StopsOn faults senses owner documents (opening_of faults old) lines lines' spawners
    spawners' new status before after
    ⊎ ServesCrew faults senses owner documents (opening_of faults old) lines lines' spawners
    spawners' new status before after
