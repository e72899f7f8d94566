-- No rule gives a task for an import, for the end of a door, and for Save.
use Rattle.std.proofs.Common.{ℕ, ℤ, Bool, true, false, not, List, [], ◌∷◌, map, Option, Some, None, Result, Ok, Err, is_some, if◌then◌else◌}
use Rattle.rb_acl.specs.declared.policy.Caller.{Caller}
use Rattle.rb_causes.specs.declared.row.Row.{Row}
use Rattle.rb_cron.specs.ZoneRules.{is_rule}
use Rattle.rb_inventory.specs.Inventories.{inventory_of}
use Rattle.rb_job.specs.declared.job.Job.{Job}
use Rattle.rb_plan.specs.Access.{Access}
use Rattle.rb_yaml.specs.Documents.{docs_of}
use Rattle.rb_yaml.specs.Faults.{◌>>=◌}
use Rattle.rb_log.specs.Imports.{imported, import_zone, import_nodes, import_policy, import_jobs, imported_job, changes_any, if_checked, may_import_policies, may_import_job, may_import_jobs, may_update, has_place_for_file, is_taken, is_named_elsewhere, ids_free, names_free}
use Rattle.rb_log.specs.LogState.{LogState, log_state, moment, has_room, nodes_number}
use Rattle.rb_log.specs.Moves.{Moved, must, read_as, moved_or, access_in, is_name, has_body, limited, limited_by, full_unless}
use Rattle.rb_log.specs.Readings.{Reading}
use Rattle.rb_log.specs.Rows.{zone_row, nodes_row, policy_row, jobs_row}
use Rattle.rb_log.specs.Sameness.{same_job}
use Rattle.rb_log.specs.World.{LoggedProject, ProjectJob, latest_of, latest_nodes, held_under, job_id}
use Rattle.rb_log.specs.declared.answer.Answer.{Answer}
use Rattle.rb_log.specs.declared.answer.Answer.TheVariants as answer
use Rattle.rb_log.specs.declared.answer.ImportedJob.{ImportedJob}
use Rattle.rb_log.specs.declared.call.Call.{Call}
use Rattle.rb_log.specs.declared.call.Call.TheVariants as call
use Rattle.rb_api.specs.Replies.{IsNoTask}
use Rattle.rb_door.proofs.NoTask.{GivesNoTask}

-- ---- steps that refuse

-- what a step refuses with is no task
abbrev Refuses : {A : Type 0} → Result A Answer → Type 0
Refuses (Ok x) = Unit {0}
Refuses (Err a) = IsNoTask a

abbrev Plain : Moved → Type 0
Plain m = IsNoTask m.answer

step : {A : Type 0} (r : Result A Answer) (f : A → Result Moved Answer) → Refuses r
    → ((x : A) → Plain (moved_or (f x))) → Plain (moved_or (r >>= f))
step (Ok x) f h k = k x
step (Err a) f h k = h

then_ : {A B : Type 0} (r : Result A Answer) (f : A → Result B Answer) → Refuses r
    → ((x : A) → Refuses (f x)) → Refuses (r >>= f)
then_ (Ok x) f h k = k x
then_ (Err a) f h k = h

must_refuses : (b : Bool) (a : Answer) → IsNoTask a → Refuses (must b a)
must_refuses true a h = tt
must_refuses false a h = h

read_refuses : {A E : Type 0} (refused : E → Answer) (r : Result A E)
    → ((e : E) → IsNoTask (refused e)) → Refuses (read_as refused r)
read_refuses refused (Ok x) h = tt
read_refuses refused (Err e) h = h e

checked_refuses : (b : Bool) (r : Result Bool Answer) → Refuses r → Refuses (if_checked b r)
checked_refuses true r h = h
checked_refuses false r h = tt

-- ---- imports

ids_refuse : (projects : List LoggedProject) (project : List ℕ) (earlier ids : List (List ℕ))
    → Refuses (ids_free projects project earlier ids)
ids_refuse projects project earlier [] = tt
ids_refuse projects project earlier (id ∷ ids) =
    then_ (must (not (is_taken projects project earlier id)) (answer.IdTaken id)) _
    (must_refuses _ _ tt) (λ x. ids_refuse projects project (id ∷ earlier) ids)

names_refuse : (projects : List LoggedProject) (project : List ℕ) (jobs : List Job)
    → Refuses (names_free projects project jobs)
names_refuse projects project [] = tt
names_refuse projects project (job ∷ jobs) =
    then_ (must (not (is_named_elsewhere projects project job))
    (answer.NameTaken (job_id project job))) _
    (must_refuses _ _ tt) (λ x. names_refuse projects project jobs)

update_refuses : (b : Bool) (access : Access) (p : ProjectJob)
    → Refuses (if b then Ok true else may_update access p)
update_refuses true access p = tt
update_refuses false access p = must_refuses _ _ tt

job_refuses : (access : Access) (o : Option ProjectJob) (job : Job)
    → Refuses (may_import_job access o job)
job_refuses access None job = must_refuses _ _ tt
job_refuses access (Some p) job = update_refuses (same_job p.held.job job) access p

jobs_refuse : (access : Access) (project : List ℕ) (projects : List LoggedProject)
    (jobs : List Job) → Refuses (may_import_jobs access project projects jobs)
jobs_refuse access project projects [] = tt
jobs_refuse access project projects (job ∷ jobs) =
    then_ (may_import_job access (held_under (job_id project job) projects) job) _
    (job_refuses access (held_under (job_id project job) projects) job)
    (λ x. jobs_refuse access project projects jobs)

imported_is_plain : (b : Bool) (n : ℕ) (jobs : List ImportedJob) (row : ℕ → Row)
    → Plain (imported b n jobs row)
imported_is_plain true n jobs row = tt
imported_is_plain false n jobs row = tt

zone_is_plain : (s : LogState) (now : ℤ) (zone rule : List ℕ)
    → Plain (import_zone s now zone rule)
zone_is_plain s now zone rule =
    step (must (is_rule rule) answer.BadZone) _ (must_refuses _ _ tt) (λ a.
    imported_is_plain (not (has_body rule (latest_of zone s.zones))) s.zones_number []
    (λ number. zone_row now number zone rule))

nodes_are_plain : (s : LogState) (now : ℤ) (project body : List ℕ)
    → Plain (import_nodes s now project body)
nodes_are_plain s now project body =
    step (must (is_name project) answer.BadName) _ (must_refuses _ _ tt) (λ a.
    step (read_as answer.BadYaml (docs_of body)) _ (read_refuses _ (docs_of body) (λ e. tt)) (λ d.
    step (read_as answer.BadNodes (inventory_of d)) _
    (read_refuses _ (inventory_of d) (λ e. tt)) (λ i.
    imported_is_plain (not (has_body body (latest_nodes project s.projects)))
    (nodes_number s project) [] (λ number. nodes_row now number project body))))

policy_is_plain : (reading : Reading) (s : LogState) (now : ℤ) (caller : Caller) (checked : Bool)
    (name body : List ℕ) → Plain (import_policy reading s now caller checked name body)
policy_is_plain reading s now caller checked name body =
    step (must (is_name name) answer.BadName) _ (must_refuses _ _ tt) (λ a.
    step (if_checked checked (may_import_policies s caller)) _
    (checked_refuses checked _ (must_refuses _ _ tt)) (λ b.
    step (read_as answer.BadYaml (docs_of body)) _ (read_refuses _ (docs_of body) (λ e. tt)) (λ d.
    step (read_as answer.BadPolicy reading.policies) _
    (read_refuses _ reading.policies (λ e. tt)) (λ p.
    step (must (has_place_for_file s.files name) answer.TooManyFiles) _ (must_refuses _ _ tt)
    (λ f. imported_is_plain (not (has_body body (latest_of name s.files))) s.policy_number []
    (λ number. policy_row now number checked name caller body))))))

jobs_are_plain : (reading : Reading) (s : LogState) (now : ℤ) (caller : Caller) (checked : Bool)
    (project body : List ℕ) → Plain (import_jobs reading s now caller checked project body)
jobs_are_plain reading s now caller checked project body =
    step (must (is_some (latest_nodes project s.projects)) answer.NoProject) _
    (must_refuses _ _ tt) (λ a.
    step (read_as answer.BadYaml (docs_of body)) _ (read_refuses _ (docs_of body) (λ e. tt)) (λ d.
    step (read_as answer.BadJobs reading.jobs) _ (read_refuses _ reading.jobs (λ e. tt)) (λ jobs.
    step (ids_free s.projects project [] (map (job_id project) jobs)) _
    (ids_refuse s.projects project [] (map (job_id project) jobs)) (λ b.
    step (names_free s.projects project jobs) _ (names_refuse s.projects project jobs) (λ n.
    step (if_checked checked
    (may_import_jobs (access_in s project caller) project s.projects jobs)) _
    (checked_refuses checked _ (jobs_refuse (access_in s project caller) project s.projects jobs))
    (λ p. imported_is_plain (changes_any (map (imported_job project s.projects) jobs))
    s.jobs_number (map (imported_job project s.projects) jobs)
    (λ number. jobs_row now number checked project caller body)))))))

-- ---- with the limit of room

full_is_plain : (b : Bool) (m : Moved) → Plain m → Plain (full_unless b m)
full_is_plain true m h = h
full_is_plain false m h = tt

limited_by_is_plain : (s : LogState) (room : ℕ) (m : Moved) (row : Option Row) (need : Option ℕ)
    → Plain m → Plain (limited_by s room m row need)
limited_by_is_plain s room m (Some row) (Some need) h = full_is_plain (has_room s room need row) m h
limited_by_is_plain s room m (Some row) None h = h
limited_by_is_plain s room m None need h = h

limited_is_plain : (s : LogState) (room : ℕ) (m : Moved) → Plain m → Plain (limited s room m)
limited_is_plain s room m h = limited_by_is_plain s room m m.row m.need h

-- ---- the calls of a session

-- an import, the end of a door, or Save
abbrev pub IsHouseCall : Call → Type 0
IsHouseCall (call.ImportZone name rule at) = Unit {0}
IsHouseCall (call.ImportNodes project body at) = Unit {0}
IsHouseCall (call.ImportPolicy caller checked name body at) = Unit {0}
IsHouseCall (call.ImportJobs caller checked project body at) = Unit {0}
IsHouseCall (call.CloseDoor door at) = Unit {0}
IsHouseCall call.Save = Unit {0}
IsHouseCall other = ⊥

pub house_gives_no_task : (c : Call) → IsHouseCall c → GivesNoTask c
house_gives_no_task (call.ImportZone name rule at) h reading past room =
    let s : LogState = log_state past in
    limited_is_plain s room _ (zone_is_plain s (moment s at) name rule)
house_gives_no_task (call.ImportNodes project body at) h reading past room =
    let s : LogState = log_state past in
    limited_is_plain s room _ (nodes_are_plain s (moment s at) project body)
house_gives_no_task (call.ImportPolicy caller checked name body at) h reading past room =
    let s : LogState = log_state past in
    limited_is_plain s room _
    (policy_is_plain reading s (moment s at) caller checked name body)
house_gives_no_task (call.ImportJobs caller checked project body at) h reading past room =
    let s : LogState = log_state past in
    limited_is_plain s room _
    (jobs_are_plain reading s (moment s at) caller checked project body)
house_gives_no_task (call.CloseDoor door at) h reading past room = tt
house_gives_no_task call.Save h reading past room = tt
house_gives_no_task (call.Run caller ask at) h reading past room = absurd h
house_gives_no_task (call.Abort caller execution at) h reading past room = absurd h
house_gives_no_task (call.Tick at) h reading past room = absurd h
house_gives_no_task (call.Claim worker at) h reading past room = absurd h
house_gives_no_task (call.Report done at) h reading past room = absurd h
house_gives_no_task (call.Look caller look) h reading past room = absurd h
