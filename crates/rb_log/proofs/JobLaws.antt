-- No job is taken away.
use Rattle.std.proofs.Common.{◌≡◌, ◌∙◌, ℕ, List, [], ◌∷◌, map, find, Bool, true, false, cond, ◌||◌, bytes_eq, is_some, Option, Some, None, option_map, ap, sym, refl, if◌then◌else◌}
use Rattle.std.specs.List.{list_any}
use Rattle.std.specs.Option.{option_or}
use Rattle.std.specs.Ordering.{match_ordering, nat_cmp}
use Rattle.std.specs.Cmp.Lexicographic.{slice_cmp}
use Rattle.std.specs.declared.cmp.Ordering.{Ordering}
use Rattle.std.specs.declared.cmp.Ordering.TheVariants.{Less, Equal, Greater}
use Rattle.std.proofs.lemmas.Bool.{false≢true, or_right}
use Rattle.rb_causes.specs.declared.row.Row.{Row}
use Rattle.rb_causes.proofs.Texts.{text_is, text_order}
use Rattle.rb_cron.specs.declared.zone.NamedZone.{NamedZone}
use Rattle.rb_job.specs.declared.job.Job.{Job}
use Rattle.rb_marks.proofs.Counts.{or_step}
use Rattle.rb_plan.specs.declared.world.HeldJob.{HeldJob}
use Rattle.rb_log.specs.Rows.{is_nodes, is_jobs, is_zone}
use Rattle.rb_log.specs.World.{LoggedProject, ProjectJob, project_name, put_nodes, with_jobs, with_fire, is_fire, fired_by, projects_at, imported_by, unless_same, put_job, put_jobs, jobs_in, job_in, held_in, held_under, latest, zones_of}
use Rattle.rb_log.specs.Sameness.{same_job}
use Rattle.rb_log.specs.Fires.{JobsStay}

-- ---- whether a job is held under an id

abbrev is_id : List ℕ → HeldJob → Bool
is_id id held = bytes_eq held.id id

abbrev has_id : List ℕ → List HeldJob → Bool
has_id id hs = list_any (is_id id) hs

abbrev is_there : List ℕ → List LoggedProject → Bool
is_there id [] = false
is_there id (p ∷ ps) = has_id id p.jobs || is_there id ps

found_by : (b : Bool) (x : HeldJob) (o : Option HeldJob)
    → is_some (cond b (Some x) o) ≡ (b || is_some o)
found_by true x o = refl
found_by false x o = refl

found_any : (id : List ℕ) (hs : List HeldJob) → is_some (find (is_id id) hs) ≡ has_id id hs
found_any id [] = refl
found_any id (x ∷ hs) =
    found_by (is_id id x) x (find (is_id id) hs)
    ∙ ap (λ b. is_id id x || b) (found_any id hs)

mapped : (p : LoggedProject) (o : Option HeldJob) → is_some (option_map (job_in p) o) ≡ is_some o
mapped p None = refl
mapped p (Some x) = refl

either_some : (a b : Option ProjectJob) → is_some (option_or a b) ≡ (is_some a || is_some b)
either_some None b = refl
either_some (Some x) b = refl

there_is : (id : List ℕ) (ps : List LoggedProject) → is_some (held_under id ps) ≡ is_there id ps
there_is id [] = refl
there_is id (p ∷ ps) =
    either_some (held_in id p) (held_under id ps)
    ∙ ap (λ b. b || is_some (held_under id ps))
    (mapped p (find (is_id id) p.jobs) ∙ found_any id p.jobs)
    ∙ ap (λ b. has_id id p.jobs || b) (there_is id ps)

-- ---- an import of jobs

same_id : (b : Bool) (id : List ℕ) (new x : HeldJob) → new.id ≡ x.id
    → is_id id (if b then x else new) ≡ is_id id x
same_id true id new x h = refl
same_id false id new x h = ap (λ n. bytes_eq n id) h

put_by_order : (id : List ℕ) (new x : HeldJob) (hs : List HeldJob) (o : Ordering)
    → slice_cmp nat_cmp new.id x.id ≡ o
    → (has_id id hs ≡ true → has_id id (put_job new hs) ≡ true)
    → has_id id (x ∷ hs) ≡ true
    → has_id id (match_ordering o (new ∷ x ∷ hs) (unless_same new x ∷ hs) (x ∷ put_job new hs))
    ≡ true
put_by_order id new x hs Less is more h = or_right (is_id id new) (has_id id (x ∷ hs)) h
put_by_order id new x hs Equal is more h =
    ap (λ b. b || has_id id hs)
    (same_id (same_job x.job new.job) id new x
    (text_is new.id x.id (text_order new.id x.id Equal is))) ∙ h
put_by_order id new x hs Greater is more h =
    or_step (is_id id x) (has_id id hs) (is_id id x) (has_id id (put_job new hs)) (λ e. e) more h

put_keeps : (id : List ℕ) (new : HeldJob) (hs : List HeldJob) → has_id id hs ≡ true
    → has_id id (put_job new hs) ≡ true
put_keeps id new [] h = absurd (false≢true h)
put_keeps id new (x ∷ hs) h =
    put_by_order id new x hs (slice_cmp nat_cmp new.id x.id) refl (put_keeps id new hs) h

all_keep : (id : List ℕ) (row : Row) (jobs : List Job) (hs : List HeldJob) → has_id id hs ≡ true
    → has_id id (put_jobs row jobs hs) ≡ true
all_keep id row [] hs h = h
all_keep id row (job ∷ jobs) hs h =
    all_keep id row jobs (put_job (imported_by row job) hs)
    (put_keeps id (imported_by row job) hs h)

with_keeps : (b : Bool) (id : List ℕ) (row : Row) (jobs : List Job) (p : LoggedProject)
    → has_id id p.jobs ≡ true
    → has_id id (if b then record p { jobs = put_jobs row jobs p.jobs } else p).jobs ≡ true
with_keeps true id row jobs p h = all_keep id row jobs p.jobs h
with_keeps false id row jobs p h = h

jobs_keep : (id : List ℕ) (zones : List NamedZone) (row : Row) (ps : List LoggedProject)
    → is_there id ps ≡ true → is_there id (map (with_jobs zones row) ps) ≡ true
jobs_keep id zones row [] h = h
jobs_keep id zones row (p ∷ ps) h =
    or_step (has_id id p.jobs) (is_there id ps) (has_id id (with_jobs zones row p).jobs)
    (is_there id (map (with_jobs zones row) ps))
    (with_keeps (bytes_eq (project_name p) row.name) id row (jobs_in zones row) p)
    (jobs_keep id zones row ps) h

-- ---- a row that fires one

fired_id : (b : Bool) (id : List ℕ) (row : Row) (x : HeldJob)
    → is_id id (if b then record x { looked = row.at } else x) ≡ is_id id x
fired_id true id row x = refl
fired_id false id row x = refl

fired_any : (id : List ℕ) (row : Row) (hs : List HeldJob)
    → has_id id (map (fired_by row) hs) ≡ has_id id hs
fired_any id row [] = refl
fired_any id row (x ∷ hs) =
    ap (λ b. b || has_id id (map (fired_by row) hs)) (fired_id (bytes_eq x.id row.name) id row x)
    ∙ ap (λ b. is_id id x || b) (fired_any id row hs)

fires_keep : (id : List ℕ) (row : Row) (ps : List LoggedProject)
    → is_there id (map (with_fire row) ps) ≡ is_there id ps
fires_keep id row [] = refl
fires_keep id row (p ∷ ps) =
    ap (λ b. b || is_there id (map (with_fire row) ps)) (fired_any id row p.jobs)
    ∙ ap (λ b. has_id id p.jobs || b) (fires_keep id row ps)

-- ---- an import of nodes

nodes_by_order : (id : List ℕ) (p new over : LoggedProject) (ps after : List LoggedProject)
    (o : Ordering) → over.jobs ≡ p.jobs → (is_there id ps ≡ true → is_there id after ≡ true)
    → is_there id (p ∷ ps) ≡ true
    → is_there id (match_ordering o (new ∷ p ∷ ps) (over ∷ ps) (p ∷ after)) ≡ true
nodes_by_order id p new over ps after Less same more h =
    or_right (has_id id new.jobs) (is_there id (p ∷ ps)) h
nodes_by_order id p new over ps after Equal same more h =
    ap (λ hs. has_id id hs || is_there id ps) same ∙ h
nodes_by_order id p new over ps after Greater same more h =
    or_step (has_id id p.jobs) (is_there id ps) (has_id id p.jobs) (is_there id after) (λ e. e) more
    h

nodes_keep : (id : List ℕ) (row : Row) (ps : List LoggedProject) → is_there id ps ≡ true
    → is_there id (put_nodes row ps) ≡ true
nodes_keep id row [] h = absurd (false≢true h)
nodes_keep id row (p ∷ ps) h =
    nodes_by_order id p _ _ ps (put_nodes row ps) (slice_cmp nat_cmp row.name (project_name p)) refl
    (nodes_keep id row ps) h

-- ---- each row

after_keeps : (id : List ℕ) (zones : List NamedZone) (n j f : Bool) (row : Row)
    (ps : List LoggedProject) → is_there id ps ≡ true
    → is_there id (if n then put_nodes row ps else if j then map (with_jobs zones row) ps
    else if f then map (with_fire row) ps else ps) ≡ true
after_keeps id zones true j f row ps h = nodes_keep id row ps h
after_keeps id zones false true f row ps h = jobs_keep id zones row ps h
after_keeps id zones false false true row ps h = fires_keep id row ps ∙ h
after_keeps id zones false false false row ps h = h

pub jobs_stay : JobsStay
jobs_stay row past id h =
    there_is id (projects_at (row ∷ past))
    ∙ after_keeps id (zones_of (latest is_zone past)) (is_nodes row) (is_jobs row) (is_fire row) row
    (projects_at past) (sym (there_is id (projects_at past)) ∙ h)
