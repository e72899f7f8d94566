-- What may be asked behind a turn.
use Rattle.std.proofs.Common.{◌≡◌, ◌∙◌, ◌<◌, ◌+◌, ℕ, zero, suc, ℤ, List, [], ◌∷◌, ◌++◌, map, filter, Bool, true, false, not, ◌&&◌, ◌||◌, Contains, nat_eq, Option, Some, None, Result, Ok, Err, is_some, option_to_list, slice_get, codes, ap, sym, subst, refl, arith, if◌then◌else◌}
use Rattle.std.specs.List.{list_any}
use Rattle.rb_causes.specs.declared.row.Row.{Row}
use Rattle.rb_causes.proofs.Lists.{find_gives, from_filter}
use Rattle.rb_yaml.specs.Documents.{docs_of}
use Rattle.rb_yaml.specs.Faults.{◌>>=◌}
use Rattle.rb_inventory.specs.Inventories.{inventory_of}
use Rattle.rb_acl.specs.declared.policy.Caller.{Caller}
use Rattle.rb_job.specs.declared.job.Job.{Job}
use Rattle.rb_plan.specs.Acceptance.{Acceptance}
use Rattle.rb_plan.specs.Access.{Access}
use Rattle.rb_plan.specs.Verdict.{verdict_of}
use Rattle.rb_plan.specs.declared.refusal.Refusal.{Refusal}
use Rattle.rb_plan.specs.declared.world.RunAsk.{RunAsk}
use Rattle.rb_log.specs.Readings.{Reading}
use Rattle.rb_log.specs.Sameness.{same_job}
use Rattle.rb_log.specs.Rows.{zone_row, nodes_row, jobs_row, policy_row, begin_row, end_row, leaf_number, leaf_at}
use Rattle.rb_log.specs.World.{ProjectJob, latest_of, job_id, latest_nodes, LoggedProject, held_under}
use Rattle.rb_log.specs.Executions.{Execution, executions, is_running}
use Rattle.rb_log.specs.LogState.{LogState, log_state, state_after, nodes_number, moment, world_of, execution_at, running_executions, has_room}
use Rattle.rb_log.specs.Moves.{Moved, only, must, read_as, moved_or, access_in, permitted_on_kind, is_name, has_body, limited, limited_by, full_unless}
use Rattle.rb_log.specs.Imports.{imported, import_zone, import_nodes, import_policy, import_jobs, if_checked, may_import_policies, has_place_for_file, ids_free, is_taken, names_free, is_named_elsewhere, may_import_job, may_import_jobs, may_update, imported_job, changes_any}
use Rattle.rb_cron.specs.ZoneRules.{is_rule}
use Rattle.rb_plan.specs.declared.accepted.Dropped.{Dropped}
use Rattle.rb_log.specs.Asks.{scheduled_ask}
use Rattle.rb_log.specs.Ticks.{DueJob, first_due, tick, tick_on, tick_by}
use Rattle.rb_log.specs.Runs.{next_number, run, run_by, verdict_at, known, known_by, permitted_on, may_act_on, abort}
use Rattle.rb_log.specs.Looks.{look_at, look_at_execution, look_at_nodes, in_project}
use Rattle.rb_log.specs.Legal.{rights_of, IsLegalLog}
use Rattle.rb_marks.specs.First.{first_startable, is_begin_of, IsLegal, LegalAfter}
use Rattle.rb_marks.specs.declared.mark.Leaf.{Leaf}
use Rattle.rb_log.specs.Claims.{claim, claimed, taken, refused_again, claim_among, is_closed, reported_end_row, report}
use Rattle.rb_log.specs.Sums.{with_begun, without_ended, without_leaf, open_leaves}
use Rattle.rb_log.specs.declared.task.OpenLeaf.{OpenLeaf}
use Rattle.rb_log.specs.Laws.{CallAsked, SlotsAreBounded, PlansAreSound, RightsFollow, RulesArePlain, is_plain_answer}
use Rattle.rb_log.specs.Tasks.{DoneValue}
use Rattle.rb_log.specs.declared.call.Call.TheVariants as call
use Rattle.rb_marks.specs.Results.{same_leaf}
use Rattle.rb_marks.specs.Sound.{IsSound}
use Rattle.rb_marks.specs.Units.{Outline}
use Rattle.rb_marks.specs.declared.mark.Mark.{Mark}
use Rattle.rb_marks.specs.declared.mark.Mark.TheVariants.{Begin, End, Abort, Lost, Withdraw}
use Rattle.rb_marks.proofs.Growing.{same_leaf_true}
use Rattle.rb_marks.proofs.Once.{legal_at}
use Rattle.rb_log.proofs.MarkLaws.{all_legal}
use Rattle.rb_log.proofs.OpenLaws.{all_open}
use Rattle.std.proofs.lemmas.Option.{slice_get-get_or}
use Rattle.rb_log.proofs.EndLaws.{found_at}
use Rattle.rb_log.proofs.RowLaws.{leaf_is_kept}
use Rattle.rb_log.specs.Told.{with_task}
use Rattle.rb_log.specs.declared.answer.Answer.{Answer}
use Rattle.rb_log.specs.declared.answer.Answer.TheVariants as answer
use Rattle.rb_log.specs.declared.answer.ImportedJob.{ImportedJob}
use Rattle.rb_log.specs.declared.shown.Shown.{Shown}
use Rattle.rb_marks.specs.First.{stops}
use Rattle.rb_log.specs.declared.call.Look.{Look}
use Rattle.rb_log.specs.declared.call.Look.TheVariants as look

-- ---- moves that change no right: the answer is plain and no task, and the row neither opens nor
-- closes anything

abbrev pub is_common : Answer → Bool
is_common (answer.Task t) = false
is_common other = is_plain_answer other

abbrev pub Keeps : LogState → Option Row → Type 0
Keeps s None = Unit {0}
Keeps s (Some row) = rights_of (state_after s row) ≡ rights_of s

pub record Harmless (s : LogState) (m : Moved) : Type 0 where
  pub answer : is_common m.answer ≡ true
  pub row : Keeps s m.row

-- a refusal by a plain answer
abbrev Refuses : {A : Type 0} → Result A Answer → Type 0
Refuses (Ok x) = Unit {0}
Refuses (Err a) = is_common a ≡ true

then_harmless : {A : Type 0} (s : LogState) (r : Result A Answer) (f : A → Result Moved Answer)
    → Refuses r → ((x : A) → Harmless s (moved_or (f x))) → Harmless s (moved_or (r >>= f))
then_harmless s (Ok x) f h k = k x
then_harmless s (Err a) f h k = record { answer = h; row = tt }

must_refuses : (b : Bool) (a : Answer) → is_common a ≡ true → Refuses (must b a)
must_refuses true a h = tt
must_refuses false a h = h

read_refuses : {A E : Type 0} (f : E → Answer) (r : Result A E) → ((e : E) → is_common (f e) ≡ true)
    → Refuses (read_as f r)
read_refuses f (Ok x) h = tt
read_refuses f (Err e) h = h e

checked_refuses : (b : Bool) (r : Result Bool Answer) → Refuses r → Refuses (if_checked b r)
checked_refuses true r h = h
checked_refuses false r h = tt

then_refuses : (r : Result Bool Answer) (f : Bool → Result Bool Answer) → Refuses r
    → ((x : Bool) → Refuses (f x)) → Refuses (r >>= f)
then_refuses (Ok x) f h k = k x
then_refuses (Err a) f h k = h

imported_harmless : (s : LogState) (b : Bool) (n : ℕ) (jobs : List ImportedJob) (row : ℕ → Row)
    → ((k : ℕ) → Keeps s (Some (row k))) → Harmless s (imported b n jobs row)
imported_harmless s true n jobs row h = record { answer = refl; row = h (n + 1) }
imported_harmless s false n jobs row h = record { answer = refl; row = tt }

-- ---- imports

pub zone_harmless : (s : LogState) (now : ℤ) (zone rule : List ℕ)
    → Harmless s (import_zone s now zone rule)
zone_harmless s now zone rule =
    then_harmless s (must (is_rule rule) answer.BadZone) _
    (must_refuses (is_rule rule) answer.BadZone refl) (λ good.
    imported_harmless s (not (has_body rule (latest_of zone s.zones))) s.zones_number []
    (λ n. zone_row now n zone rule) (λ k. refl))

pub nodes_harmless : (s : LogState) (now : ℤ) (project body : List ℕ)
    → Harmless s (import_nodes s now project body)
nodes_harmless s now project body =
    then_harmless s (must (is_name project) answer.BadName) _
    (must_refuses (is_name project) answer.BadName refl) (λ named.
    then_harmless s (read_as answer.BadYaml (docs_of body)) _
    (read_refuses answer.BadYaml (docs_of body) (λ e. refl)) (λ docs.
    then_harmless s (read_as answer.BadNodes (inventory_of docs)) _
    (read_refuses answer.BadNodes (inventory_of docs) (λ e. refl)) (λ inventory.
    imported_harmless s (not (has_body body (latest_nodes project s.projects)))
    (nodes_number s project)
    [] (λ n. nodes_row now n project body) (λ k. refl))))

pub policy_harmless : (reading : Reading) (s : LogState) (now : ℤ) (caller : Caller)
    (checked : Bool) (file body : List ℕ)
    → Harmless s (import_policy reading s now caller checked file body)
policy_harmless reading s now caller checked file body =
    let add : Bool → Result Moved Answer = λ place.
    Ok (imported (not (has_body body (latest_of file s.files))) s.policy_number []
    (λ number. policy_row now number checked file caller body)) in
    then_harmless s (must (is_name file) answer.BadName) _
    (must_refuses (is_name file) answer.BadName refl) (λ named.
    then_harmless s (if_checked checked (may_import_policies s caller)) _
    (checked_refuses checked (may_import_policies s caller)
    (must_refuses _ _ refl)) (λ permission.
    then_harmless s (read_as answer.BadYaml (docs_of body)) _
    (read_refuses answer.BadYaml (docs_of body) (λ e. refl)) (λ docs.
    then_harmless s (read_as answer.BadPolicy (reading.policies))
    (λ policies. must (has_place_for_file s.files file) answer.TooManyFiles >>= add)
    (read_refuses answer.BadPolicy (reading.policies) (λ e. refl)) (λ policies.
    then_harmless s (must (has_place_for_file s.files file) answer.TooManyFiles) add
    (must_refuses (has_place_for_file s.files file) answer.TooManyFiles refl) (λ place.
    imported_harmless s (not (has_body body (latest_of file s.files))) s.policy_number []
    (λ n. policy_row now n checked file caller body) (λ k. refl))))))

ids_refuse : (held : List LoggedProject) (project : List ℕ) (earlier ids : List (List ℕ))
    → Refuses (ids_free held project earlier ids)
ids_refuse held project earlier [] = tt
ids_refuse held project earlier (id ∷ ids) =
    then_refuses (must (not (is_taken held project earlier id)) (answer.IdTaken id)) _
    (must_refuses (not (is_taken held project earlier id)) (answer.IdTaken id) refl)
    (λ free. ids_refuse held project (id ∷ earlier) ids)

names_refuse : (held : List LoggedProject) (project : List ℕ) (jobs : List Job)
    → Refuses (names_free held project jobs)
names_refuse held project [] = tt
names_refuse held project (job ∷ jobs) =
    then_refuses (must (not (is_named_elsewhere held project job))
    (answer.NameTaken (job_id project job))) _
    (must_refuses (not (is_named_elsewhere held project job))
    (answer.NameTaken (job_id project job)) refl) (λ free. names_refuse held project jobs)

if_refuses : (b : Bool) (r : Result Bool Answer) → Refuses r → Refuses (if b then Ok true else r)
if_refuses true r h = tt
if_refuses false r h = h

job_refuses : (access : Access) (p : Option ProjectJob) (job : Job)
    → Refuses (may_import_job access p job)
job_refuses access None job = must_refuses _ _ refl
job_refuses access (Some p) job =
    if_refuses (same_job p.held.job job) (may_update access p)
    (must_refuses _ _ refl)

jobs_refuse : (access : Access) (project : List ℕ) (held : List LoggedProject) (jobs : List Job)
    → Refuses (may_import_jobs access project held jobs)
jobs_refuse access project held [] = tt
jobs_refuse access project held (job ∷ jobs) =
    then_refuses (may_import_job access (held_under (job_id project job) held) job)
    _
    (job_refuses access (held_under (job_id project job) held) job)
    (λ permission. jobs_refuse access project held jobs)

pub jobs_harmless : (reading : Reading) (s : LogState) (now : ℤ) (caller : Caller)
    (checked : Bool) (project body : List ℕ)
    → Harmless s (import_jobs reading s now caller checked project body)
jobs_harmless reading s now caller checked project body =
    then_harmless s (must (is_some (latest_nodes project s.projects)) answer.NoProject) _
    (must_refuses (is_some (latest_nodes project s.projects)) answer.NoProject refl) (λ there.
    then_harmless s (read_as answer.BadYaml (docs_of body)) _
    (read_refuses answer.BadYaml (docs_of body) (λ e. refl)) (λ docs.
    then_harmless s (read_as answer.BadJobs (reading.jobs)) _
    (read_refuses answer.BadJobs (reading.jobs) (λ e. refl)) (λ jobs.
    then_harmless s (ids_free s.projects project [] (map (job_id project) jobs)) _
    (ids_refuse s.projects project [] (map (job_id project) jobs)) (λ free.
    then_harmless s (names_free s.projects project jobs) _ (names_refuse s.projects project jobs)
    (λ unnamed.
    then_harmless s (if_checked checked
    (may_import_jobs (access_in s project caller) project s.projects jobs)) _
    (checked_refuses checked (may_import_jobs (access_in s project caller) project s.projects jobs)
    (jobs_refuse (access_in s project caller) project s.projects jobs)) (λ permission.
    imported_harmless s (changes_any (map (imported_job project s.projects) jobs)) s.jobs_number
    (map (imported_job project s.projects) jobs)
    (λ n. jobs_row now n checked project caller body) (λ k. refl)))))))

-- ---- runs, aborts and looks

run_harmless_by : (s : LogState) (now : ℤ) (caller : Caller) (ask : RunAsk)
    (r : Result Acceptance Refusal) → Harmless s (run_by s now caller ask r)
run_harmless_by s now caller ask (Ok accepted) = record { answer = refl; row = refl }
run_harmless_by s now caller ask (Err refusal) = record { answer = refl; row = tt }

pub run_harmless : (s : LogState) (now : ℤ) (caller : Caller) (ask : RunAsk)
    → Harmless s (run s now caller ask)
run_harmless s now caller ask =
    run_harmless_by s now caller ask
    (verdict_of (world_of s) caller ask (s.draw + next_number s))

tick_harmless_by : (s : LogState) (now : ℤ) (d : DueJob) (r : Result Acceptance Refusal)
    → Harmless s (tick_by s now d r)
tick_harmless_by s now d (Ok accepted) = record { answer = refl; row = refl }
tick_harmless_by s now d (Err refusal) = record { answer = refl; row = refl }

tick_harmless_on : (s : LogState) (now : ℤ) (due : Option DueJob) → Harmless s (tick_on s now due)
tick_harmless_on s now None = record { answer = refl; row = tt }
tick_harmless_on s now (Some d) =
    tick_harmless_by s now d (verdict_at s d.held.importer (scheduled_ask d.held.id))

pub tick_harmless : (s : LogState) (now : ℤ) → Harmless s (tick s now)
tick_harmless s now = tick_harmless_on s now (first_due s now)

known_refuses : (o : Option Execution) → Refuses (known_by o)
known_refuses None = refl
known_refuses (Some e) = tt

acting_refuses : (s : LogState) (caller : Caller) (action : List ℕ) (p : Option ProjectJob)
    → Refuses (permitted_on s caller action p)
acting_refuses s caller action None = refl
acting_refuses s caller action (Some p) = must_refuses _ _ refl

pub abort_harmless : (s : LogState) (now : ℤ) (caller : Caller) (number : ℕ)
    → Harmless s (abort s now caller number)
abort_harmless s now caller number =
    then_harmless s (known s number) _ (known_refuses (execution_at s number)) (λ e.
    then_harmless s (may_act_on s caller (codes "kill") e) _
    (acting_refuses s caller (codes "kill")
    (held_under e.accepted.job s.projects)) (λ permission.
    then_harmless s (must (is_running e) answer.Ended) _
    (must_refuses (is_running e) answer.Ended refl) (λ running.
    then_harmless s (must (not (list_any stops e.marks)) answer.Aborting) _
    (must_refuses (not (list_any stops e.marks)) answer.Aborting refl) (λ first.
    record { answer = refl; row = refl }))))

execution_harmless : (s : LogState) (caller : Caller) (number : ℕ) (show : Execution → Shown)
    → Harmless s (look_at_execution s caller number show)
execution_harmless s caller number show =
    then_harmless s (known s number) _ (known_refuses (execution_at s number)) (λ e.
    then_harmless s (may_act_on s caller (codes "read") e) _
    (acting_refuses s caller (codes "read")
    (held_under e.accepted.job s.projects)) (λ permission.
    record { answer = refl; row = tt }))

project_harmless : (s : LogState) (project : List ℕ) (view : Shown)
    → Harmless s (in_project s project view)
project_harmless s project view =
    then_harmless s (must (is_some (latest_nodes project s.projects)) answer.NoProject) _
    (must_refuses (is_some (latest_nodes project s.projects)) answer.NoProject refl) (λ there.
    record { answer = refl; row = tt })

resources_harmless : (s : LogState) (caller : Caller) (project : List ℕ)
    → Harmless s (look_at_nodes s caller project)
resources_harmless s caller project =
    then_harmless s (must (is_some (latest_nodes project s.projects)) answer.NoProject) _
    (must_refuses (is_some (latest_nodes project s.projects)) answer.NoProject refl) (λ there.
    then_harmless s (permitted_on_kind (access_in s project caller) (codes "read") (codes "node")) _
    (must_refuses _ _ refl) (λ permission. record { answer = refl; row = tt }))

pub look_harmless : (s : LogState) (caller : Caller) (l : Look) → Harmless s (look_at s caller l)
look_harmless s caller (look.Execution number) = execution_harmless s caller number _
look_harmless s caller (look.State number) = execution_harmless s caller number _
look_harmless s caller (look.Jobs project) = project_harmless s project _
look_harmless s caller (look.Resources project) = resources_harmless s caller project
look_harmless s caller (look.Executions project most offset wanted) = project_harmless s project _

-- ---- the room

full_harmless : (s : LogState) (b : Bool) (m : Moved) → Harmless s m → Harmless s (full_unless b m)
full_harmless s true m h = h
full_harmless s false m h = record { answer = refl; row = tt }

limited_harmless_by : (s : LogState) (room : ℕ) (m : Moved) (row : Option Row) (need : Option ℕ)
    → Harmless s m → Harmless s (limited_by s room m row need)
limited_harmless_by s room m (Some row) (Some need) h =
    full_harmless s (has_room s room need row) m h
limited_harmless_by s room m (Some row) None h = h
limited_harmless_by s room m None need h = h

pub limited_harmless : (s : LogState) (room : ℕ) (m : Moved) → Harmless s m
    → Harmless s (limited s room m)
limited_harmless s room m h = limited_harmless_by s room m m.row m.need h

-- ---- what a harmless move leaves

no_task : (a : Answer) (leaves : List OpenLeaf) → is_common a ≡ true → with_task a leaves ≡ leaves
no_task (answer.Task t) leaves h = absurd (grind (arith, h))
no_task other leaves h = refl

kept_rights : (past : List Row) (row : Option Row) → Keeps (log_state past) row
    → rights_of (log_state (option_to_list row ++ past)) ≡ rights_of (log_state past)
kept_rights past None h = refl
kept_rights past (Some row) h = h

-- the rights behind a move are those before it, with the leaf of a task
abbrev Gives : List Row → Moved → Type 0
Gives past m =
    rights_of (log_state (option_to_list m.row ++ past))
    ≡ record (rights_of (log_state past))
    { leaves = with_task m.answer (rights_of (log_state past)).leaves }

harmless_gives : (past : List Row) (m : Moved) → Harmless (log_state past) m → Gives past m
harmless_gives past m h =
    kept_rights past m.row h.row
    ∙ ap (λ leaves. record (rights_of (log_state past)) { leaves = leaves })
    (sym (no_task m.answer (rights_of (log_state past)).leaves h.answer))

-- ---- a claim

-- it is found by its number, and the number of a leaf that may start gives the leaf back
record IsPlaced (s : LogState) (e : Execution) : Type 0 where
  found : execution_at s e.number ≡ Some e
  leaf : (l : Leaf) → first_startable e.accepted.plan e.marks ≡ Some l
      → leaf_at e.accepted.plan.slots (leaf_number e.accepted.plan.slots l) ≡ l

taken_gives : (past : List Row) (now : ℤ) (worker : ℕ) (e : Execution) (leaf : Leaf)
    (refused : List Dropped) → first_startable e.accepted.plan e.marks ≡ Some leaf
    → IsPlaced (log_state past) e → Gives past (taken (log_state past) e now worker leaf refused)
taken_gives past now worker e l [] is h =
    ap (λ found. record (rights_of (log_state past)) {
      leaves = with_begun (begin_row now e.number (leaf_number e.accepted.plan.slots l) worker)
          found (open_leaves past);
    }) h.found
    ∙ ap (λ m. record (rights_of (log_state past)) {
      leaves = open_leaves past ++ record { execution = e.number; leaf = m; worker = worker }
          ∷ [];
    }) (h.leaf l is)
taken_gives past now worker e l (d ∷ ds) is h = refl

claimed_gives : (past : List Row) (now : ℤ) (worker : ℕ) (e : Execution) (leaf : Option Leaf)
    (later : Moved) → first_startable e.accepted.plan e.marks ≡ leaf → IsPlaced (log_state past) e
    → Gives past later → Gives past (claimed (log_state past) e now worker leaf later)
claimed_gives past now worker e None later is h k = k
claimed_gives past now worker e (Some l) later is h k =
    taken_gives past now worker e l (refused_again (log_state past) e l) is h

among_gives : (past : List Row) (now : ℤ) (worker : ℕ) (es : List Execution)
    → ((k : ℕ) (e : Execution) → slice_get es k ≡ Some e → IsPlaced (log_state past) e)
    → Gives past (claim_among (log_state past) now worker es)
among_gives past now worker [] h = refl
among_gives past now worker (e ∷ es) h =
    claimed_gives past now worker e (first_startable e.accepted.plan e.marks)
    (claim_among (log_state past) now worker es) refl (h zero e refl)
    (among_gives past now worker es (λ k. h (suc k)))

if_gives : (past : List Row) (b : Bool) (m : Moved) → Gives past m
    → Gives past (if b then only answer.Closed else m)
if_gives past true m h = refl
if_gives past false m h = h

claim_gives : SlotsAreBounded → PlansAreSound → (past : List Row) (now : ℤ) (worker : ℕ)
    → IsLegalLog past → Gives past (claim (log_state past) now worker)
claim_gives slots plans past now worker legal =
    if_gives past (is_closed (log_state past))
    (claim_among (log_state past) now worker (running_executions (log_state past)))
    (among_gives past now worker (running_executions (log_state past))
    (λ k e get.
    let j = from_filter is_running (executions past) k e get in
    record {
      found = found_at past j.0 e j.1;
      leaf = λ l first. leaf_is_kept e.accepted.plan.slots l
          (slots e.accepted.plan e.marks l (plans past j.0 e legal j.1) first);
    }))

-- what needs no room is not limited
pub owed_by_all : (s : LogState) (room : ℕ) (m : Moved) (row : Option Row)
    → limited_by s room m row None ≡ m
owed_by_all s room m (Some row) = refl
owed_by_all s room m None = refl

taken_need : (s : LogState) (e : Execution) (now : ℤ) (worker : ℕ) (leaf : Leaf)
    (refused : List Dropped) → (taken s e now worker leaf refused).need ≡ None
taken_need s e now worker leaf [] = refl
taken_need s e now worker leaf (d ∷ ds) = refl

claimed_need : (s : LogState) (e : Execution) (now : ℤ) (worker : ℕ) (leaf : Option Leaf)
    (later : Moved) → later.need ≡ None → (claimed s e now worker leaf later).need ≡ None
claimed_need s e now worker None later h = h
claimed_need s e now worker (Some l) later h =
    taken_need s e now worker l (refused_again s e l)

pub among_need : (s : LogState) (now : ℤ) (worker : ℕ) (es : List Execution)
    → (claim_among s now worker es).need ≡ None
among_need s now worker [] = refl
among_need s now worker (e ∷ es) =
    claimed_need s e now worker (first_startable e.accepted.plan e.marks)
    (claim_among s now worker es) (among_need s now worker es)

pub if_need : (b : Bool) (m : Moved) → m.need ≡ None → (if b then only answer.Closed else m).need ≡ None
if_need true m h = refl
if_need false m h = h

pub unlimited : (s : LogState) (room : ℕ) (m : Moved) → m.need ≡ None → limited s room m ≡ m
unlimited s room m h = ap (λ need. limited_by s room m m.row need) h ∙ owed_by_all s room m m.row

-- ---- a report

any_split_by : {A : Type 0} (p : A → Bool) (b : Bool) (x : A) (xs : List A) → p x ≡ b
    → (list_any p xs ≡ true → (h : List A) × (y : A) × (rest : List A) × (xs ≡ h ++ y ∷ rest)
    × (p y ≡ true))
    → (b || list_any p xs) ≡ true
    → (h : List A) × (y : A) × (rest : List A) × (x ∷ xs ≡ h ++ y ∷ rest) × (p y ≡ true)
any_split_by p true x xs is f h = ([], x, xs, refl, is)
any_split_by p false x xs is f h = let g = f h in (x ∷ g.0, g.1, g.2, ap (λ ys. x ∷ ys) g.3, g.4)

any_split : {A : Type 0} (p : A → Bool) (xs : List A) → list_any p xs ≡ true
    → (h : List A) × (y : A) × (rest : List A) × (xs ≡ h ++ y ∷ rest) × (p y ≡ true)
any_split p [] h = absurd (grind (arith, h))
any_split p (x ∷ xs) h = any_split_by p (p x) x xs refl (any_split p xs) h

pub begin_is : (leaf : Leaf) (m : Mark) → is_begin_of leaf m ≡ true → m ≡ Begin leaf
begin_is leaf (Begin at) h = ap Begin (same_leaf_true at leaf h)
begin_is leaf (End at ending) h = absurd (grind (arith, h))
begin_is leaf Abort h = absurd (grind (arith, h))
begin_is leaf Lost h = absurd (grind (arith, h))
begin_is leaf (Withdraw node) h = absurd (grind (arith, h))

-- a leaf that has begun in legal marks has a slot of the plan
pub begun_slot : SlotsAreBounded → (p : Outline) (marks : List Mark) (leaf : Leaf) → IsSound p
    → IsLegal p marks → list_any (is_begin_of leaf) marks ≡ true → leaf.slot < p.slots
begun_slot slots p marks leaf sound legal h =
    let g = any_split (is_begin_of leaf) marks h in
    let at : marks ≡ g.0 ++ Begin leaf ∷ g.2 =
    g.3 ∙ ap (λ m. g.0 ++ m ∷ g.2) (begin_is leaf g.1 g.4) in
    slots p g.0 leaf sound (legal_at p [] g.0 g.2 (Begin leaf)
    (subst (λ ms. LegalAfter p [] ms) at legal))

ended_gives : (past : List Row) (now : ℤ) (done : DoneValue) (e : Execution)
    → execution_at (log_state past) done.claimed.execution ≡ Some e
    → leaf_at e.accepted.plan.slots (leaf_number e.accepted.plan.slots done.claimed.leaf)
    ≡ done.claimed.leaf
    → rights_of (log_state (option_to_list (reported_end_row now done (Some e)) ++ past))
    ≡ record (rights_of (log_state past))
    { leaves = without_leaf done.claimed (open_leaves past) }
ended_gives past now done e there leaf =
    ap (λ found. record (rights_of (log_state past)) {
      leaves = without_ended (end_row now done.claimed.execution
          (leaf_number e.accepted.plan.slots done.claimed.leaf) done.ending) found
          (open_leaves past);
    }) there
    ∙ ap (λ l. record (rights_of (log_state past)) {
      leaves = filter (λ y. not (nat_eq y.execution done.claimed.execution
          && same_leaf y.leaf l)) (open_leaves past);
    }) leaf

report_gives : SlotsAreBounded → PlansAreSound → (past : List Row) (now : ℤ) (done : DoneValue)
    → IsLegalLog past → Contains (open_leaves past) done.claimed
    → rights_of (log_state (option_to_list (report (log_state past) now done).row ++ past))
    ≡ record (rights_of (log_state past))
    { leaves = without_leaf done.claimed (open_leaves past) }
report_gives slots plans past now done legal has =
    let o = all_open slots plans past legal has.0 done.claimed
    (slice_get-get_or (open_leaves past) has.0 done.claimed has.1 ∙ ap Some has.2) in
    let j = find_gives (λ x. nat_eq x.number done.claimed.execution) (executions past) o.execution
    o.there in
    let e = o.execution in
    let bound = begun_slot slots e.accepted.plan e.marks done.claimed.leaf
    (plans past j.0 e legal j.1) (all_legal slots plans past legal j.0 e j.1) o.is.begun in
    subst (λ found. rights_of (log_state
    (option_to_list (reported_end_row now done found) ++ past))
    ≡ record (rights_of (log_state past))
    { leaves = without_leaf done.claimed (open_leaves past) })
    (sym o.there) (ended_gives past now done e o.there
    (leaf_is_kept e.accepted.plan.slots done.claimed.leaf bound))

-- ---- all calls

turn_gives : (past : List Row) (room : ℕ) (m : Moved) → Harmless (log_state past) m
    → Gives past (limited (log_state past) room m)
turn_gives past room m h = harmless_gives past (limited (log_state past) room m)
    (limited_harmless (log_state past) room m h)

module _ (slots : SlotsAreBounded) (plans : PlansAreSound) (past : List Row) (room : ℕ)
    (reading : Reading) where
  abbrev s : LogState
  s = log_state past

  claim_follows : (at : ℤ) (worker : ℕ) → CallAsked past (call.Claim worker at) reading
      → Gives past (limited s room (claim s (moment s at) worker))
  claim_follows at worker h =
      let now : ℤ = moment s at in
      subst (Gives past) (sym (unlimited s room (claim s now worker)
      (if_need (is_closed s) (claim_among s now worker (running_executions s))
      (among_need s now worker (running_executions s)))))
      (claim_gives slots plans past now worker h.legal)

  report_follows : (at : ℤ) (done : DoneValue) → CallAsked past (call.Report done at) reading
      → rights_of (log_state (option_to_list (limited s room (report s (moment s at) done)).row
      ++ past)) ≡ record (rights_of s) { leaves = without_leaf done.claimed (open_leaves past) }
  report_follows at done h =
      let now : ℤ = moment s at in
      subst (λ (m : Moved). rights_of (log_state (option_to_list m.row ++ past))
      ≡ record (rights_of s) { leaves = without_leaf done.claimed (open_leaves past) })
      (sym (unlimited s room (report s now done) refl))
      (report_gives slots plans past now done h.legal h.may.1)

pub rights_follow : SlotsAreBounded → PlansAreSound → RightsFollow
rights_follow slots plans past room (call.ImportZone name rule at) reading h =
    turn_gives past room _
    (zone_harmless (log_state past) (moment (log_state past) at) name rule)
rights_follow slots plans past room (call.ImportNodes project body at) reading h =
    turn_gives past room _ (nodes_harmless (log_state past) (moment (log_state past) at) project
    body)
rights_follow slots plans past room (call.ImportPolicy caller checked file body at) reading h =
    turn_gives past room _
    (policy_harmless reading (log_state past) (moment (log_state past) at) caller checked file body)
rights_follow slots plans past room (call.ImportJobs caller checked project body at) reading h =
    turn_gives past room _
    (jobs_harmless reading (log_state past) (moment (log_state past) at) caller checked project
    body)
rights_follow slots plans past room (call.Run caller ask at) reading h =
    turn_gives past room _ (run_harmless (log_state past) (moment (log_state past) at) caller ask)
rights_follow slots plans past room (call.Abort caller number at) reading h =
    turn_gives past room _ (abort_harmless (log_state past) (moment (log_state past) at) caller
    number)
rights_follow slots plans past room (call.Tick at) reading h =
    turn_gives past room _ (tick_harmless (log_state past) (moment (log_state past) at))
rights_follow slots plans past room (call.Claim worker at) reading h =
    claim_follows slots plans past room reading at worker h
rights_follow slots plans past room (call.Report done at) reading h =
    report_follows slots plans past room reading at done h
rights_follow slots plans past room (call.CloseDoor door at) reading h = refl
rights_follow slots plans past room (call.Look caller l) reading h =
    turn_gives past room _ (look_harmless (log_state past) caller l)
rights_follow slots plans past room call.Save reading h = refl

-- ---- the answers of the rules are plain

common_plain : (a : Answer) → is_common a ≡ true → is_plain_answer a ≡ true
common_plain (answer.Task t) h = refl
common_plain other h = h

taken_plain : (s : LogState) (now : ℤ) (worker : ℕ) (e : Execution) (leaf : Leaf)
    (refused : List Dropped) → is_plain_answer (taken s e now worker leaf refused).answer ≡ true
taken_plain s now worker e leaf [] = refl
taken_plain s now worker e leaf (d ∷ ds) = refl

claimed_plain : (s : LogState) (now : ℤ) (worker : ℕ) (e : Execution) (leaf : Option Leaf)
    (later : Moved) → is_plain_answer later.answer ≡ true
    → is_plain_answer (claimed s e now worker leaf later).answer ≡ true
claimed_plain s now worker e None later h = h
claimed_plain s now worker e (Some leaf) later h =
    taken_plain s now worker e leaf (refused_again s e leaf)

among_plain : (s : LogState) (now : ℤ) (worker : ℕ) (es : List Execution)
    → is_plain_answer (claim_among s now worker es).answer ≡ true
among_plain s now worker [] = refl
among_plain s now worker (e ∷ es) =
    claimed_plain s now worker e (first_startable e.accepted.plan e.marks)
    (claim_among s now worker es) (among_plain s now worker es)

closed_plain : (b : Bool) (m : Moved) → is_plain_answer m.answer ≡ true
    → is_plain_answer (if b then only answer.Closed else m).answer ≡ true
closed_plain true m h = refl
closed_plain false m h = h

pub rules_are_plain : RulesArePlain
rules_are_plain reading s (call.ImportZone name rule at) unpromised unsaved =
    common_plain _ (zone_harmless s (moment s at) name rule).answer
rules_are_plain reading s (call.ImportNodes project body at) unpromised unsaved =
    common_plain _ (nodes_harmless s (moment s at) project body).answer
rules_are_plain reading s (call.ImportPolicy caller checked file body at) unpromised unsaved =
    common_plain _ (policy_harmless reading s (moment s at) caller checked file body).answer
rules_are_plain reading s (call.ImportJobs caller checked project body at) unpromised unsaved =
    common_plain _ (jobs_harmless reading s (moment s at) caller checked project body).answer
rules_are_plain reading s (call.Run caller ask at) unpromised unsaved =
    common_plain _ (run_harmless s (moment s at) caller ask).answer
rules_are_plain reading s (call.Abort caller number at) unpromised unsaved =
    common_plain _ (abort_harmless s (moment s at) caller number).answer
rules_are_plain reading s (call.Tick at) unpromised unsaved =
    common_plain _ (tick_harmless s (moment s at)).answer
rules_are_plain reading s (call.Claim worker at) unpromised unsaved =
    closed_plain (is_closed s) (claim_among s (moment s at) worker (running_executions s))
    (among_plain s (moment s at) worker (running_executions s))
rules_are_plain reading s (call.Report done at) unpromised unsaved =
    absurd (grind (arith, unpromised))
rules_are_plain reading s (call.CloseDoor door at) unpromised unsaved =
    absurd (grind (arith, unpromised))
rules_are_plain reading s (call.Look caller l) unpromised unsaved =
    common_plain _ (look_harmless s caller l).answer
rules_are_plain reading s call.Save unpromised unsaved = absurd (grind (arith, unsaved))
