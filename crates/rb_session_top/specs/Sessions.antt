-- What holds of every session, sentence by sentence.
use Rattle.std.specs.Prelude.{
  ◌≡◌,
  ◌≤◌,
  ℕ,
  ℤ,
  true,
  List,
  [],
  ◌∷◌,
  ◌++◌,
  length,
  take,
  drop,
  reverse,
  Option,
  Some,
  None,
  is_none,
  is_some,
  IfSome,
}
use Rattle.std.specs.List.{flat_map, list_all}
use Rattle.rb_causes.specs.Causes.{Rose}
use Rattle.rb_causes.specs.declared.row.Row.{Row}
use Rattle.rb_desk.specs.DeskState.{DeskState, may_wait}
use Rattle.rb_desk.specs.Steps.{told_of}
use Rattle.rb_desk.specs.Opening.{
  OpeningAsked,
  IsGoodStore,
  IsOpenCause,
  KeeperHolds,
  asked_of,
  opening_row,
}
use Rattle.rb_desk.specs.declared.open_err.OpenErr.{OpenErr}
use Rattle.rb_door.specs.Exchanges.{Moments}
use Rattle.rb_log.specs.Acted.{Acted, ActsAs}
use Rattle.rb_log.specs.Legal.{IsLegalLog}
use Rattle.rb_log.specs.Programs.{programs_at}
use Rattle.rb_log.specs.Records.{Record}
use Rattle.rb_log.specs.Told.{Told}
use Rattle.rb_log.specs.declared.answer.Answer.TheVariants as answer
use Rattle.rb_log.specs.declared.call.Call.TheVariants as call
use Rattle.rb_manifest.specs.declared.manifest.Manifest.{Manifest}
use Rattle.rb_session.specs.Courses.{Course, RunsCourse}
use Rattle.rb_session.specs.Fetching.{AllHad, StopsAtFile}
use Rattle.rb_session.specs.Imports.{ImportsDocuments}
use Rattle.rb_session.specs.Laws.{AreGuestsServed, all_works}
use Rattle.rb_session.specs.Lines.{Stop}
use Rattle.rb_session.specs.Statuses.{EndsAsTold, saving_of}
use Rattle.rb_session.specs.Visits.{scene}
use Rattle.rb_session.specs.declared.place.Document.{Document}
use Rattle.rb_session.specs.declared.saving.Saving.{Saving}
use Rattle.rb_session_top.specs.Sights.{
  CallersSight,
  DeskSight,
  Given,
  GivesDesk,
  GivesKeeper,
  Sight,
  desk_told,
  kept_faults,
  kept_rows,
}
use Rattle.rb_session_top.specs.Stories.{
  Deeds,
  NoForm,
  Opened,
  Story,
  Unfetched,
  Unopened,
  Wanting,
  stop_done,
  stop_in,
}
use Rattle.rb_session_top.specs.Words.{manifest_words}
use Rattle.rb_tables.specs.Tables.{most_rows}
use Rattle.rb_causes.specs.Outside.{gained}
use Rattle.rb_causes.specs.Sinks.{SinkState}
use Rattle.rb_causes.specs.Spawners.{ShownRuns}
use Rattle.rb_wire.specs.Hearing.{Pending}
use Rattle.rb_work.specs.Works.{added_numbers}

-- ---- before the desk

-- what a session asks of its desk: one door, one worker, and the greatest room
abbrev pub session_asked : ℕ → ℤ → OpeningAsked
session_asked draw at = asked_of 1 1 draw most_rows at

-- why no desk was opened, though all files were had
pub record IsUnopened (may_be : Moments) (name : List ℕ) (draw : ℕ) (old new : Sight)
    (e : OpenErr) : Type 0 where
  pub manifest : Manifest
  pub documents : List Document
  pub had : AllHad old.shelf.files name manifest documents
  pub at : ℤ
  pub moment : may_be at
  pub cause : IsOpenCause kept_rows kept_faults old.kept new.kept (session_asked draw at) e
  pub rows : new.kept.rows ≡ old.kept.rows

-- no desk is given back, and no line and no spawner was called
pub record IsUntouched (old new : Sight) (given : Given) : Type 0 where
  pub no_desk : given ≡ GivesKeeper
  pub line : new.line ≡ old.line
  pub spawner : new.spawner ≡ old.spawner

-- ---- with a desk

-- a desk was opened, which told this: its log is what was kept, and the row of this opening
pub record IsOpened (may_be : Moments) (draw : ℕ) (kept : Option (List Row)) (opened : DeskSight)
    : Type 0 where
  pub held : List Row
  pub at : ℤ
  pub moment : may_be at
  pub holds : KeeperHolds kept held
  pub good : IsGoodStore held
  pub log : opened.log ≡ held ++ opening_row held (session_asked draw at) ∷ []
  pub saved : opened.saved ≡ length opened.log
  pub room : opened.room ≡ most_rows

-- The callers of the line were served: what the desk was asked, the line gave and took, and the
-- spawner started are those of this course; and then the desk was asked to save.
pub record IsCourseRun (may_be : Moments) (m : Manifest) (imported last : Told)
    (line line' : CallersSight) (spawner spawner' : ShownRuns) (c : Course) (save : Record)
    : Type 0 where
  pub pending : Pending
  pub pending' : Pending
  pub served : Told
  pub course : RunsCourse may_be m.tokens m.inline
      (scene imported spawner line.callers pending)
      (scene served spawner' line'.callers pending') c
  -- the programs that were started are those of the pumps' works, by the log
  pub programs : spawner'.runs
      ≡ gained spawner.runs (programs_at served.log (flat_map added_numbers (all_works c)))
  -- each caller got what the rules say at its place in the log
  pub guests : AreGuestsServed may_be m.tokens served.log imported.room
      line.callers line'.callers c
  pub saves : ActsAs served last save
  pub asked : save.call ≡ call.Save

-- unless an import ended the session: then the line was not asked, and nothing was begun
abbrev pub IsServed : Moments → Manifest → Told → Told → CallersSight → CallersSight → ShownRuns
    → ShownRuns → Option (Course × Record) → Type 0
IsServed may_be m imported last line line' spawner spawner' None =
    (last ≡ imported) × (line' ≡ line) × (spawner' ≡ spawner)
IsServed may_be m imported last line line' spawner spawner' (Some done) =
    IsCourseRun may_be m imported last line line' spawner spawner' done.0 done.1

-- What was asked of a desk between these: each document was imported in order, unchecked, as the
-- owner; the first that was not taken ended the session, and else the callers were served.
pub record IsDone (may_be : Moments) (opened last : Told) (line line' : CallersSight)
    (spawner spawner' : ShownRuns) (deeds : Deeds) : Type 0 where
  pub imported : Told
  pub acted : Acted opened imported deeds.imports
  pub imports : ImportsDocuments may_be deeds.manifest.owner deeds.stop deeds.documents
      deeds.imports
  pub stopped : is_some deeds.course ≡ is_none deeds.stop
  pub served : IsServed may_be deeds.manifest imported last line line' spawner spawner'
      deeds.course

-- What is kept: the first rows of the log, and all but those that may wait for the next append;
-- and all of it where Save says so.
pub record IsLogKept (rows : Option (List Row)) (desk : DeskSight)
    (course : Option (Course × Record)) : Type 0 where
  pub within : desk.saved ≤ length desk.log
  pub held : IfSome rows (λ held. held ≡ take desk.saved desk.log)
  pub waiting : list_all may_wait (drop desk.saved desk.log) ≡ true
  pub saved : IfSome course (λ done. done.1.answer ≡ answer.Saved → desk.saved ≡ length desk.log)

-- A session that opened its desk.
pub record Headline (may_be : Moments) (name : List ℕ) (draw : ℕ) (old new : Sight)
    (desk : DeskSight) (deeds : Deeds) : Type 0 where
  -- the files are those that the manifest names, and all were had
  pub documents : AllHad old.shelf.files name deeds.manifest deeds.documents
  -- the desk was opened over the rows that were kept, with the draw that was given
  pub opened : DeskSight
  pub faults : ℕ
  pub opening : IsOpened may_be draw old.kept.rows opened
  -- it was asked this and nothing else: the log that it gives back is that of these calls, the
  -- line's callers got the replies of these exchanges, and the programs that were started are
  -- those of these pumps
  pub done : IsDone may_be (desk_told opened faults) (desk_told desk new.kept.faults)
      old.line new.line old.spawner new.spawner deeds
  -- the log is legal
  pub legal : IsLegalLog (reverse desk.log)
  -- what was answered is kept
  pub kept : IsLogKept new.kept.rows desk deeds.course

-- ---- every session

-- the words are of a session or of a server, of the manifest of this name
abbrev pub IfWords : List (List ℕ) → (List ℕ → Type 0) → Type 0
IfWords words Is = (name : List ℕ) × (manifest_words words ≡ Some name) × Is name

-- what happened, by how far the session came
abbrev pub Happened : Moments → List (List ℕ) → ℕ → Sight → Sight → Given → Story → Type 0
Happened may_be words draw old new given NoForm =
    IsUntouched old new given × (manifest_words words ≡ None) × (new.kept ≡ old.kept)
    × (new.shelf ≡ old.shelf)
Happened may_be words draw old new given Wanting =
    IsUntouched old new given × (new.kept ≡ old.kept)
Happened may_be words draw old new given (Unfetched file unread) =
    IsUntouched old new given × (new.kept ≡ old.kept)
    × IfWords words (λ name. StopsAtFile old.shelf new.shelf name file unread)
Happened may_be words draw old new given (Unopened e) =
    IsUntouched old new given × IfWords words (λ name. IsUnopened may_be name draw old new e)
Happened may_be words draw old new given (Opened deeds) =
    (desk : DeskSight) × (given ≡ GivesDesk desk)
    × IfWords words (λ name. Headline may_be name draw old new desk deeds)

-- A fault is told only where the count of its object rose.
pub record HasCauses (old new : Sight) (status : ℕ) : Type 0 where
  pub shelf : status ≡ 4 → Rose old.shelf.faults new.shelf.faults
  pub line : status ≡ 5 → Rose old.line.faults new.line.faults
  pub keeper : status ≡ 6 → Rose old.kept.faults new.kept.faults

-- no count of faults fell
pub record NoneFell (old new : Sight) : Type 0 where
  pub files : new.shelf.files ≡ old.shelf.files
  pub shelf : old.shelf.faults ≤ new.shelf.faults
  pub line : old.line.faults ≤ new.line.faults
  pub spawner : old.spawner.faults ≤ new.spawner.faults
  pub keeper : old.kept.faults ≤ new.kept.faults

-- Every session: how far it came, what happened, and what was told of it: the status, and the line
-- that tells what ended it, or a part of that where the sink failed or wanted memory.
pub record Session (may_be : Moments) (words : List (List ℕ)) (draw : ℕ) (old new : Sight)
    (status : ℕ) (given : Given) : Type 0 where
  pub story : Story
  pub happened : Happened may_be words draw old new given story
  pub ended : EndsAsTold (stop_in story) status old.sink new.sink
  pub causes : HasCauses old new status
  pub faults : NoneFell old new

-- ---- behind the opening

-- one Save was asked of a desk, of which this is told
abbrev pub IsSaved : {K : Type 0} → (K → ℕ) → DeskState K → DeskState K → Saving → Type 0
IsSaved faults old new said =
    (r : Record) × ActsAs (told_of faults old) (told_of faults new) r × (r.call ≡ call.Save)
    × (said ≡ saving_of r.answer) × (r.answer ≡ answer.Saved → new.saved ≡ length new.log)

-- What was done with a desk, and how that is told.
pub record Serves (may_be : Moments) (m : Manifest) (documents : List Document)
    (opened last : Told) (line line' : CallersSight) (spawner spawner' : ShownRuns)
    (desk : DeskSight) (status : ℕ) (before after : SinkState) : Type 0 where
  pub imports : List Record
  pub stop : Option Stop
  pub course : Option (Course × Record)
  pub done : IsDone may_be opened last line line' spawner spawner'
      (record {
        manifest = m;
        documents = documents;
        imports = imports;
        stop = stop;
        course = course;
      })
  pub saved : IfSome course (λ done. done.1.answer ≡ answer.Saved → desk.saved ≡ length desk.log)
  pub ended : EndsAsTold (stop_done stop course) status before after
