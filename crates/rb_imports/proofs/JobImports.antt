-- What is decided of an import of jobs.
use Rattle.std.proofs.Common.{◌≡◌, ◌∙◌, ◌+◌, ◌-◌, ◌^◌, min, ℕ, ℤ, Bool, true, false, List, [], map, length, find, Some, is_some, slice_get, unwrap_or, Result, Ok, Err, IfOk, ap, sym, subst, refl, arith}
use Rattle.rb_causes.specs.declared.row.Row.{Row}
use Rattle.rb_yaml.specs.Documents.{docs_of}
use Rattle.rb_yaml.specs.Faults.{◌>>=◌}
use Rattle.rb_yaml.specs.Tree.{YamlTree}
use Rattle.rb_acl.specs.declared.policy.Caller.{Caller}
use Rattle.rb_cron.specs.declared.zone.NamedZone.{NamedZone}
use Rattle.rb_job.specs.declared.fault.JobFault.{JobFault}
use Rattle.rb_job.specs.declared.job.Job.{Job}
use Rattle.rb_plan.specs.declared.world.Project.{Project}
use Rattle.rb_plan.specs.declared.world.World.{World}
use Rattle.rb_log.specs.Imports.{if_checked, may_import_jobs, ids_free as logged_ids, names_free, imported_job as logged_job, changes_any}
use Rattle.rb_log.specs.LogState.{log_state, moment, moment_by, zones_in}
use Rattle.rb_log.specs.Moves.{Moved, only, adds, must, read_as, moved_or, access_in}
use Rattle.rb_log.specs.Readings.{MayReadJobs, jobs_of}
use Rattle.rb_log.specs.Rows.{jobs_row, jobs_kind, is_jobs}
use Rattle.rb_log.specs.Turn.{MayRead}
use Rattle.rb_log.specs.World.{project_name, project_with, projects_at, latest_nodes, job_id, jobs_in, count_of_kind, read_or}
use Rattle.rb_log.specs.declared.answer.Answer.{Answer}
use Rattle.rb_log.specs.declared.answer.Answer.TheVariants as answer
use Rattle.rb_log.specs.declared.answer.ImportedJob.{ImportedJob}
use Rattle.rb_log.specs.declared.call.Call.{Call}
use Rattle.rb_log.specs.declared.call.Call.TheVariants as call
use Rattle.rb_tables.specs.Changes.{Decided, Keeps, IsRefusal, IsSettled, IsJobsEffect, Makes, IsAnswerOf}
use Rattle.rb_imports.specs.Importing.{JobsUnread, jobs_kept, jobs_moved, body_docs}
use Rattle.rb_imports.specs.JobImports.{IsPlaceOf, is_called, ids_free, name_free, each_keeps, may_import, imported_job}
use Rattle.rb_tables.specs.Tables.{IsTabled}
use Rattle.rb_tables.specs.declared.change.Change.{Change}
use Rattle.rb_tables.specs.declared.change.TableEffect.TheVariants.{Jobs}
use Rattle.rb_tables.specs.declared.change.JobsEffect.{JobsEffect}
use Rattle.rb_tables.specs.declared.change.Outcome.TheVariants as outcome
use Rattle.rb_tables.specs.declared.tables.Tables.{Tables}
use Rattle.rb_tables.proofs.Deciding.{refused_first, refused_then, settled, decided, refused_moved}
use Rattle.rb_imports.proofs.JobRules.{ids_same, names_same, rights_same, done_same, there_same, StandsAt, stands_at, there}
use Rattle.rb_imports.proofs.NodeImports.{next_is, same_import, new_import, change_is, effect_is}
use Rattle.rb_tables.proofs.Projects.{rows_few, number_few}
use Rattle.rb_imports.proofs.Readable.{jobs_readable}

-- the projects of the world are those of the log
pub world_projects : (t : Tables) (past : List Row) → IsTabled t past
    → t.world.projects ≡ map project_with (projects_at past)
world_projects t past tabled = ap (λ (w : World). w.projects) tabled.says.world

-- so are its zones
world_zones : (t : Tables) (past : List Row) → IsTabled t past
    → t.world.zones ≡ zones_in (log_state past)
world_zones t past tabled = ap (λ (w : World). w.zones) tabled.says.world

-- what was read with them was read with those of the log
pub read_there : (t : Tables) (past : List Row) → IsTabled t past → (docs : List YamlTree)
    (jobs : List Job)
    → MayReadJobs t.world.zones docs (Ok jobs)
    → MayReadJobs (zones_in (log_state past)) docs (Ok jobs)
read_there t past tabled docs jobs h =
    subst (λ zs. MayReadJobs zs docs (Ok jobs)) (world_zones t past tabled) h

pub unread_there : (t : Tables) (past : List Row) → IsTabled t past → (docs : List YamlTree)
    (a : Answer)
    → JobsUnread t.world.zones docs a → JobsUnread (zones_in (log_state past)) docs a
unread_there t past tabled docs a h =
    subst (λ zs. JobsUnread zs docs a) (world_zones t past tabled) h

-- ---- ids, names and rights

module _ (t : Tables) (past : List Row) (tabled : IsTabled t past) (caller : Caller)
    (checked : Bool) (project : List ℕ) (jobs : List Job) where
  abbrev rights : Result Bool Answer
  rights =
      if_checked checked (may_import_jobs (access_in (log_state past) project caller) project
      (projects_at past) jobs)

  ids_are : ids_free t.world.projects project [] (map (job_id project) jobs)
      ≡ logged_ids (projects_at past) project [] (map (job_id project) jobs)
  ids_are =
      ap (λ qs. ids_free qs project [] (map (job_id project) jobs)) (world_projects t past tabled)
      ∙ ids_same (projects_at past) project [] [] (map (job_id project) jobs) (λ text. refl)

  names_are : each_keeps (name_free t.world.projects project) jobs
      ≡ names_free (projects_at past) project jobs
  names_are =
      ap (λ qs. each_keeps (name_free qs project) jobs) (world_projects t past tabled)
      ∙ names_same (projects_at past) project jobs

  pub taken_refused : (a : Answer)
      → IsRefusal (ids_free t.world.projects project [] (map (job_id project) jobs)) a
      → IsRefusal (jobs_kept (log_state past) caller checked project jobs) a
  taken_refused a h =
      refused_first (logged_ids (projects_at past) project [] (map (job_id project) jobs)) _ a
      (subst (λ r. IsRefusal r a) ids_are h)

  pub named_refused : (a : Answer)
      → ids_free t.world.projects project [] (map (job_id project) jobs) ≡ Ok true
      → IsRefusal (each_keeps (name_free t.world.projects project) jobs) a
      → IsRefusal (jobs_kept (log_state past) caller checked project jobs) a
  named_refused a free h =
      refused_then (logged_ids (projects_at past) project [] (map (job_id project) jobs)) _ true a
      (sym ids_are ∙ free)
      (refused_first (names_free (projects_at past) project jobs) _ a
      (subst (λ r. IsRefusal r a) names_are h))

  pub jobs_keep : {A : Type 0} (result : Result A Answer)
      → ids_free t.world.projects project [] (map (job_id project) jobs) ≡ Ok true
      → each_keeps (name_free t.world.projects project) jobs ≡ Ok true
      → Keeps (if_checked checked (each_keeps
      (may_import (access_in (log_state past) project caller) project t.world.projects) jobs))
      result
      → Keeps (jobs_kept (log_state past) caller checked project jobs) result
  jobs_keep result free unnamed h =
      subst (λ r. Keeps r result)
      (sym (ap (λ r. r >>= λ free. names_free (projects_at past) project jobs >>= λ unnamed.
      rights) (sym ids_are ∙ free)
      ∙ ap (λ r. r >>= λ unnamed. rights) (sym names_are ∙ unnamed)))
      (subst (λ r. Keeps (if_checked checked r) result)
      (ap (λ qs. each_keeps (may_import (access_in (log_state past) project caller) project qs)
      jobs) (world_projects t past tabled)
      ∙ rights_same (access_in (log_state past) project caller) project (projects_at past) jobs) h)

-- ---- the effect

-- the project at the place, as the log has it
pub place_stands : (t : Tables) (past : List Row) (name : List ℕ) (place : ℕ)
    → IsTabled t past → (h : IsPlaceOf t.world.projects name place)
    → StandsAt (projects_at past) place h.project
place_stands t past name place tabled h =
    stands_at (projects_at past) place h.project
    (ap (λ qs. slice_get qs place) (sym (world_projects t past tabled)) ∙ h.found)

pub place_named : (t : Tables) (past : List Row) (name : List ℕ) (place : ℕ)
    (tabled : IsTabled t past) (h : IsPlaceOf t.world.projects name place)
    → project_name (place_stands t past name place tabled h).logged ≡ name
place_named t past name place tabled h =
    ap (λ (p : Project). p.name) (place_stands t past name place tabled h).held ∙ h.named

pub place_there : (t : Tables) (past : List Row) (name : List ℕ) (place : ℕ)
    → IsTabled t past → IsPlaceOf t.world.projects name place
    → is_some (latest_nodes name (projects_at past)) ≡ true
place_there t past name place tabled h =
    there name (projects_at past) place (place_stands t past name place tabled h).logged
    (place_stands t past name place tabled h).found (place_named t past name place tabled h)

-- ---- the change

module _ (t : Tables) (past : List Row) (tabled : IsTabled t past) (at : ℤ) (caller : Caller)
    (checked : Bool) (project body : List ℕ) (done : List ImportedJob) where
  pub jobs_same : (a : Answer) → changes_any done ≡ false
      → a ≡ answer.Imported t.jobs_number done
      → IsAnswerOf (jobs_moved (log_state past) at caller checked project body done) a
  jobs_same a none told =
      subst (IsAnswerOf (jobs_moved (log_state past) at caller checked project body done))
      (sym told)
      (same_import (changes_any done) (count_of_kind is_jobs past) done
      (λ n. jobs_row (moment (log_state past) at) n checked project caller body) none
      ∙ ap (λ n. only (answer.Imported n done)) (sym tabled.says.jobs_number))

  pub jobs_new : (c : Change) (version : ℕ) (row : Row) (e : JobsEffect) (new : List Job)
      → changes_any done ≡ true
      → version ≡ min (t.jobs_number + 1) (2 ^ 64 - 1)
      → row ≡ jobs_row (moment_by t.last at) version checked project caller body
      → c ≡ record {
        outcome = outcome.Imported version done;
        row = row;
        effect = Jobs e;
      }
      → (row.kind ≡ jobs_kind → new ≡ jobs_in (zones_in (log_state past)) row
      → IsJobsEffect past row e)
      → new ≡ jobs_of (zones_in (log_state past)) (body_docs body)
      → Makes past (jobs_moved (log_state past) at caller checked project body done) (Ok c)
  jobs_new c version row e new some next made told effect read =
      let few : version ≡ t.jobs_number + 1 =
      next_is t.jobs_number version next
      (omega (
        arith,
        tabled.says.jobs_number,
        number_few is_jobs past,
        rows_few t past tabled,
      )) in
      let row_is
      : row ≡ jobs_row (moment (log_state past) at) version checked project caller body =
      made ∙ ap (λ last. jobs_row (moment_by last at) version checked project caller body)
      tabled.says.last in (
        new_import (changes_any done) (count_of_kind is_jobs past) version done
            (λ n. jobs_row (moment (log_state past) at) n checked project caller body) some
            (few ∙ ap (λ n. n + 1) tabled.says.jobs_number)
            ∙ ap (λ r. adds 1 (answer.Imported version done) r) (sym row_is)
            ∙ change_is c version done row (Jobs e) refl told,
        effect_is past c version done row (Jobs e) told
            (effect (ap (λ (r : Row). r.kind) row_is)
            (read ∙ ap (jobs_in (zones_in (log_state past))) (sym row_is))),
      )

-- ---- the rules

-- three rules and what is behind them, or the three and then what is behind
in_turn : {B : Type 0} (free unnamed right : Result Bool Answer) (m : Result B Answer)
    → ((free >>= λ f. unnamed >>= λ u. right) >>= λ p. m)
    ≡ (free >>= λ f. unnamed >>= λ u. right >>= λ p. m)
in_turn (Err x) unnamed right m = refl
in_turn (Ok x) (Err y) right m = refl
in_turn (Ok x) (Ok y) right m = refl

module _ (t : Tables) (past : List Row) (tabled : IsTabled t past) (at : ℤ) (caller : Caller)
    (checked : Bool) (project body : List ℕ) where
  abbrev c : Call
  c = call.ImportJobs caller checked project body at

  abbrev is_there : Result Bool Answer
  is_there = must (is_some (latest_nodes project (projects_at past))) answer.NoProject

  pub jobs_nowhere : (a : Answer)
      → IsRefusal (must (is_some (find (is_called project) t.world.projects)) answer.NoProject) a
      → IsSettled past c a
  jobs_nowhere a h =
      let r = jobs_readable (log_state past) caller checked project body at in
      settled past c r.0 _ a r.1 refl
      (refused_moved _ a (refused_first is_there _ a
      (subst (λ b. IsRefusal (must b answer.NoProject) a)
      (ap (λ qs. is_some (find (is_called project) qs)) (world_projects t past tabled)
      ∙ there_same project (projects_at past)) h)))

  found : (place : ℕ) → IsPlaceOf t.world.projects project place
      → must (is_some (latest_nodes project (projects_at past))) answer.NoProject ≡ Ok true
  found place h =
      ap (λ b. must b answer.NoProject) (place_there t past project place tabled h)

  pub jobs_unread : (a : Answer) (place : ℕ) → IsPlaceOf t.world.projects project place
      → IsRefusal (read_as answer.BadYaml (docs_of body)) a → IsSettled past c a
  jobs_unread a place k h =
      let r = jobs_readable (log_state past) caller checked project body at in
      settled past c r.0 _ a r.1 refl
      (refused_moved _ a (refused_then is_there _ true a (found place k)
      (refused_first (read_as answer.BadYaml (docs_of body)) _ a h)))

  -- what the reader gave for the documents
  gave : (docs : List YamlTree) (read : Result (List Job) JobFault) → docs_of body ≡ Ok docs
      → MayReadJobs (zones_in (log_state past)) docs read
      → MayRead (log_state past) c (record { policies = Ok []; jobs = read })
  gave docs read is h =
      subst (λ r. IfOk r (λ docs. MayReadJobs (zones_in (log_state past)) docs read)) (sym is) h

  pub jobs_bad : (a : Answer) (docs : List YamlTree) (place : ℕ)
      → IsPlaceOf t.world.projects project place → docs_of body ≡ Ok docs
      → JobsUnread (zones_in (log_state past)) docs a
      → IsSettled past c a
  jobs_bad answer.NoMemory docs place k is h = tt
  jobs_bad (answer.BadJobs fault) docs place k is h =
      let a : Answer = answer.BadJobs fault in
      settled past c (record { policies = Ok []; jobs = Err fault }) _ a
      (gave docs (Err fault) is h) refl
      (refused_moved _ a (refused_then is_there _ true a (found place k)
      (refused_then (read_as answer.BadYaml (docs_of body)) _ docs a
      (ap (read_as answer.BadYaml) is) refl)))
  jobs_bad other docs place k is h = absurd h

  pub jobs_refused : (a : Answer) (docs : List YamlTree) (jobs : List Job) (place : ℕ)
      → IsPlaceOf t.world.projects project place → docs_of body ≡ Ok docs
      → MayReadJobs (zones_in (log_state past)) docs (Ok jobs)
      → IsRefusal (jobs_kept (log_state past) caller checked project jobs) a
      → IsSettled past c a
  jobs_refused a docs jobs place k is read h =
      let kept : Result Bool Answer = jobs_kept (log_state past) caller checked project jobs in
      let done : List ImportedJob = map (logged_job project (projects_at past)) jobs in
      settled past c (record { policies = Ok []; jobs = Ok jobs }) _ a (gave docs (Ok jobs) is read)
      refl
      (refused_moved _ a (refused_then is_there _ true a (found place k)
      (refused_then (read_as answer.BadYaml (docs_of body)) _ docs a
      (ap (read_as answer.BadYaml) is)
      (subst (λ r. IsRefusal r a) (in_turn
      (logged_ids (projects_at past) project [] (map (job_id project) jobs))
      (names_free (projects_at past) project jobs)
      (if_checked checked (may_import_jobs (access_in (log_state past) project caller) project
      (projects_at past) jobs))
      (Ok (jobs_moved (log_state past) at caller checked project body done)))
      (refused_first kept
      (λ permission. Ok (jobs_moved (log_state past) at caller checked project body done)) a
      h)))))

  pub jobs_decided : (result : Result Change Answer) (docs : List YamlTree) (jobs : List Job)
      (place : ℕ)
      → IsPlaceOf t.world.projects project place → docs_of body ≡ Ok docs
      → MayReadJobs (zones_in (log_state past)) docs (Ok jobs)
      → jobs_kept (log_state past) caller checked project jobs ≡ Ok true
      → Makes past (jobs_moved (log_state past) at caller checked project body
      (map (imported_job project t.world.projects) jobs)) result
      → Decided past c result
  jobs_decided result docs jobs place k is read kept h =
      let done : List ImportedJob = map (logged_job project (projects_at past)) jobs in
      let m : Moved = jobs_moved (log_state past) at caller checked project body done in
      let free : Result Bool Answer =
      logged_ids (projects_at past) project [] (map (job_id project) jobs) in
      let unnamed : Result Bool Answer = names_free (projects_at past) project jobs in
      let right : Result Bool Answer =
      if_checked checked (may_import_jobs (access_in (log_state past) project caller) project
      (projects_at past) jobs) in
      decided past c (record { policies = Ok []; jobs = Ok jobs }) m result
      (gave docs (Ok jobs) is read)
      (ap (λ r. moved_or (r >>= λ there. read_as answer.BadYaml (docs_of body) >>= λ docs.
      free >>= λ f. unnamed >>= λ u. right >>= λ p. Ok m)) (found place k)
      ∙ ap (λ r. moved_or (read_as answer.BadYaml r >>= λ docs.
      free >>= λ f. unnamed >>= λ u. right >>= λ p. Ok m)) is
      ∙ ap moved_or (sym (in_turn free unnamed right (Ok m)))
      ∙ ap (λ r. moved_or (r >>= λ p. Ok m)) kept)
      (subst (λ js. Makes past (jobs_moved (log_state past) at caller checked project body js)
      result)
      (ap (λ qs. map (imported_job project qs) jobs) (world_projects t past tabled)
      ∙ done_same project (projects_at past) jobs) h)

-- the jobs that were read are those of the body
pub jobs_read : (zones : List NamedZone) (body : List ℕ) (docs : List YamlTree)
    (jobs : List Job)
    → docs_of body ≡ Ok docs → MayReadJobs zones docs (Ok jobs)
    → jobs ≡ jobs_of zones (body_docs body)
jobs_read zones body docs jobs is read =
    read.jobs_are ∙ ap (λ r. jobs_of zones (read_or [] r)) (sym is)

-- how many jobs are held there
pub held_here : (t : Tables) (past : List Row) (name : List ℕ) (place : ℕ)
    (tabled : IsTabled t past) (h : IsPlaceOf t.world.projects name place) (p : Project)
    → slice_get t.world.projects place ≡ Some p
    → length p.jobs ≡ length (place_stands t past name place tabled h).logged.jobs
held_here t past name place tabled h p get =
    ap (λ o. length (unwrap_or o p).jobs) (sym get ∙ h.found)
    ∙ sym (ap (λ (q : Project). length q.jobs) (place_stands t past name place tabled h).held)

pub some_change : (b : Bool) (done : List ImportedJob) → b ≡ changes_any done → b ≡ true
    → changes_any done ≡ true
some_change b done h is = sym h ∙ is
