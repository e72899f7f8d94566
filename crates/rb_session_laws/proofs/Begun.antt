-- The programs of a session are those of the Begin rows behind its opening.
use Rattle.std.proofs.Common.{◌≡◌, ◌∙◌, ℕ, ℤ, false, List, [], ◌∷◌, ◌++◌, Option, Some, None, All, ap, sym, refl, append-nil}
use Rattle.std.specs.List.{flat_map}
use Rattle.std.proofs.lemmas.List.Elements.{All-cons, All-contains, All-nil}
use Rattle.rb_causes.specs.Outside.{gained}
use Rattle.rb_causes.specs.Spawners.{ShownRuns}
use Rattle.rb_causes.specs.declared.spawner.SpawnRun.{SpawnRun}
use Rattle.rb_acl.specs.declared.policy.Caller.{Caller}
use Rattle.rb_door.specs.Exchanges.{Moments}
use Rattle.rb_door.specs.Laws.{ActsAreTrue, TurnsStayTrue}
use Rattle.rb_door.proofs.Acting.{begins_then}
use Rattle.rb_log.specs.Programs.{programs_at}
use Rattle.rb_log.specs.Records.{IsTrueRecord, Record}
use Rattle.rb_log.specs.Steps.{BeginsAreTasks, RowsAreOfCalls}
use Rattle.rb_log.specs.Told.{IsBeginning, Told, added}
use Rattle.rb_log.specs.declared.call.Call.TheVariants as call
use Rattle.rb_manifest.specs.declared.manifest.Manifest.{Manifest}
use Rattle.rb_session.specs.Courses.{Course, course_records}
use Rattle.rb_session.specs.Documents.{import_at, import_of}
use Rattle.rb_session.specs.Imports.{GoesOnIfTaken, ImportsDocuments, stop_of}
use Rattle.rb_session.specs.Laws.{CoursesAct, CoursesRun, WorksAreAll}
use Rattle.rb_session.specs.Lines.{Stop}
use Rattle.rb_session.specs.Visits.{scene}
use Rattle.rb_session.specs.declared.place.Document.{Document}
use Rattle.rb_session.specs.declared.place.Place.{Place}
use Rattle.rb_session.specs.declared.place.Place.TheVariants.{Jobs, Nodes, Policy, Zone}
use Rattle.rb_session.proofs.Silent.{IsQuiet, by_call, is_claim, none_quiet, one_quiet, programs_split, quiet_run}
use Rattle.rb_session_laws.specs.Origins.{deed_records, records_and_save}
use Rattle.rb_session_laws.specs.Programs.{ProgramsAreBegun, RowsAreOfKinds}
use Rattle.rb_session_laws.proofs.Asked.{rows_are_asked}
use Rattle.rb_session_top.specs.Sessions.{IsServed}
use Rattle.rb_session_top.specs.Sights.{CallersSight, desk_told}
use Rattle.rb_tables.specs.Tables.{most_rows}
use Rattle.rb_work.proofs.Records.{acted_begins}

-- ---- imports begin nothing

import_no_claim : (owner : Caller) (place : Place) (body : List ℕ) (at : ℤ)
    → is_claim (import_at owner place body at) ≡ false
import_no_claim owner (Zone file name rule) body at = refl
import_no_claim owner (Policy file) body at = refl
import_no_claim owner (Nodes project file) body at = refl
import_no_claim owner (Jobs project file) body at = refl

later_quiet : (stop now : Option Stop) (rs : List Record) (On : Type 0)
    → GoesOnIfTaken stop now rs On → (On → All IsQuiet rs) → All IsQuiet rs
later_quiet stop None rs On h quiet = quiet h
later_quiet stop (Some now) rs On h quiet = none_quiet rs h.1

imports_quiet : (may_be : Moments) (owner : Caller) (stop : Option Stop) (ds : List Document)
    (rs : List Record) → ImportsDocuments may_be owner stop ds rs → All IsQuiet rs
imports_quiet may_be owner stop [] [] h = All-nil IsQuiet
imports_quiet may_be owner stop [] (r ∷ rs) h = absurd h
imports_quiet may_be owner stop (d ∷ ds) [] h = All-nil IsQuiet
imports_quiet may_be owner stop (d ∷ ds) (r ∷ rs) h =
    All-cons IsQuiet r rs
    (by_call r (import_of owner d h.0.at) h.0.asked
    (import_no_claim owner d.place d.body h.0.at))
    (later_quiet stop (stop_of d r) rs (ImportsDocuments may_be owner stop ds rs) h.1
    (imports_quiet may_be owner stop ds rs))

-- ---- what the spawner gained

gained_none : (runs : Option (List SpawnRun)) → runs ≡ gained runs []
gained_none None = refl
gained_none (Some runs) = ap Some (sym (append-nil runs))

module _ (begins : BeginsAreTasks) (acts : ActsAreTrue) (stay : TurnsStayTrue) (may_be : Moments)
    (run : CoursesRun may_be) (all : WorksAreAll may_be) where
  -- the course and the Save began what the spawner gained
  served_runs : (m : Manifest) (imported last : Told) (line line' : CallersSight)
      (spawner spawner' : ShownRuns) (course : Option (Course × Record))
      → IsServed may_be m imported last line line' spawner spawner' course
      → spawner'.runs
      ≡ gained spawner.runs (programs_at last.log (flat_map added (records_and_save course)))
  served_runs m imported last line line' spawner spawner' None h =
      ap (λ (s : ShownRuns). s.runs) h.2 ∙ gained_none spawner.runs
  served_runs m imported last line line' spawner spawner' (Some done) h =
      let old = scene imported spawner line.callers h.pending in
      let new = scene h.served spawner' line'.callers h.pending' in
      let more : IsBeginning h.served.log last.log =
      acted_begins (done.1 ∷ []) h.served last (last, h.saves, refl) in
      let save : programs_at last.log (flat_map added (done.1 ∷ [])) ≡ [] =
      quiet_run begins acts stay (done.1 ∷ []) h.served last (last, h.saves, refl)
      (one_quiet done.1 (by_call done.1 call.Save h.asked refl)) last.log
      ([], sym (append-nil last.log)) in
      run m.tokens m.inline old new done.0 last.log h.course more
      ∙ ap (gained spawner.runs)
      (sym (all m.tokens m.inline old new done.0 h.course last.log more)
      ∙ sym (append-nil (programs_at last.log (flat_map added (course_records done.0))))
      ∙ ap (λ runs. programs_at last.log (flat_map added (course_records done.0)) ++ runs)
      (sym save)
      ∙ sym (programs_split last.log added (course_records done.0) (done.1 ∷ [])))

  pub programs_are_begun : CoursesAct may_be → ProgramsAreBegun may_be
  programs_are_begun course_acts name draw old new desk deeds headline =
      let first : Told = desk_told headline.opened headline.faults in
      let last : Told = desk_told desk new.kept.faults in
      let done = headline.done in
      let served = served_begins deeds.manifest done.imported last old.line new.line old.spawner
      new.spawner deeds.course done.served in
      let imported : programs_at desk.log (flat_map added deeds.imports) ≡ [] =
      quiet_run begins acts stay deeds.imports first done.imported done.acted
      (imports_quiet may_be deeds.manifest.owner deeds.stop deeds.documents deeds.imports
      done.imports) desk.log served in
      let rows = rows_are_asked may_be course_acts acts name draw old new desk deeds headline in
      served_runs deeds.manifest done.imported last old.line new.line old.spawner new.spawner
      deeds.course done.served
      ∙ ap (gained old.spawner.runs)
      (ap (λ runs. runs ++ programs_at desk.log (flat_map added (records_and_save deeds.course)))
      (sym imported)
      ∙ sym (programs_split desk.log added deeds.imports (records_and_save deeds.course))
      ∙ ap (programs_at desk.log) rows.rows)
    where
      -- what was imported stands in the log that is given back
      served_begins : (m : Manifest) (imported last : Told) (line line' : CallersSight)
          (spawner spawner' : ShownRuns) (course : Option (Course × Record))
          → IsServed may_be m imported last line line' spawner spawner' course
          → IsBeginning imported.log last.log
      served_begins m imported last line line' spawner spawner' None h =
          ([], ap (λ (t : Told). t.log) h.0 ∙ sym (append-nil imported.log))
      served_begins m imported last line line' spawner spawner' (Some d) h =
          begins_then imported.log h.served.log last.log
          (acted_begins (course_records d.0) imported h.served
          (course_acts m.tokens m.inline (scene imported spawner line.callers h.pending)
          (scene h.served spawner' line'.callers h.pending') d.0 h.course))
          (acted_begins (d.1 ∷ []) h.served last (last, h.saves, refl))

-- ---- the kinds of rows

pub rows_are_of_kinds : RowsAreOfCalls → ActsAreTrue → (may_be : Moments) → CoursesAct may_be
    → RowsAreOfKinds may_be
rows_are_of_kinds kinds acts may_be course_acts name draw old new desk deeds headline r row there
    grew at =
    let rows = rows_are_asked may_be course_acts acts name draw old new desk deeds headline in
    kinds desk.log most_rows r row
    (All-contains (IsTrueRecord desk.log most_rows) (deed_records deeds) r rows.each there) grew at
