-- Imports of the demo's documents: what was read is imported, since nothing of the kind was there
-- before.
use Rattle.std.proofs.Common.{◌≡◌, ℕ, ◌<◌, ◌+◌, ℤ, Bool, true, false, not, ◌&&◌, bytes_eq, List, [], ◌∷◌, length, map, is_some, codes, None, Ok, refl, ap, subst, ◌∙◌}
use Rattle.std.specs.List.{list_any, AllByRecursion as Each}
use Rattle.std.specs.Prelude.{IfOk}
use Rattle.std.proofs.lemmas.Bool.{lt-ltb}
use Rattle.std.proofs.Math.Bool.{and-false}
use Rattle.rb_yaml.specs.Tree.{YamlTree}
use Rattle.rb_yaml.specs.Documents.{docs_of}
use Rattle.rb_inventory.specs.Inventories.{inventory_of}
use Rattle.rb_inventory.specs.declared.inventory.Inventory.{Inventory}
use Rattle.rb_acl.specs.declared.policy.Caller.{Caller}
use Rattle.rb_acl.specs.declared.policy.Policy.{Policy}
use Rattle.rb_job.specs.declared.job.Job.{Job}
use Rattle.rb_plan.specs.declared.world.HeldJob.{HeldJob}
use Rattle.rb_log.specs.Readings.{Reading, MayReadPolicies, MayReadJobs}
use Rattle.rb_log.specs.World.{LoggedProject, latest_of, latest_nodes, held_under, project_name, job_id}
use Rattle.rb_log.specs.LogState.{LogState, zones_in, moment}
use Rattle.rb_log.specs.Moves.{is_name, adds}
use Rattle.rb_log.specs.Rows.{jobs_row}
use Rattle.rb_log.specs.declared.answer.Answer.TheVariants.{Imported}
use Rattle.rb_log.specs.declared.answer.ImportedJob.{ImportedJob}
use Rattle.rb_log.specs.Imports.{most_files, ids_free, names_free, imported_job, is_named_elsewhere, is_like, changes_any}
use Rattle.rb_log.specs.Turn.{unlimited_turn}
use Rattle.rb_log.specs.declared.call.Call.TheVariants.{ImportNodes, ImportPolicy, ImportJobs}
use Rattle.rb_demo.specs.Texts.{policy_text, demo_jobs_text}
use Rattle.rb_demo.specs.Read.{demo_jobs}
use Rattle.rb_demo.specs.Laws.{NodesAreRead, PoliciesAreRead, JobsAreRead}
use Rattle.rb_demo.specs.Imports.{first_nodes, next_policy, created_jobs, HoldsNoJob, NodesAreImported, PoliciesAreImported, JobsAreImported}

-- ---- nodes

text_imported : (reading : Reading) (s : LogState) (project body : List ℕ) (at : ℤ) (docs : List YamlTree) (inventory : Inventory) →
    is_name project ≡ true → docs_of body ≡ Ok docs → inventory_of docs ≡ Ok inventory → latest_nodes project s.projects ≡ None →
    unlimited_turn reading s (ImportNodes project body at) ≡ first_nodes s project body at
text_imported reading s project body at docs inventory named d i none = rw (named, d, i, none) refl

pub nodes_imported : NodesAreRead → NodesAreImported
nodes_imported law nodes some few reading s project at named none =
    let read = law nodes some few in text_imported reading s project _ at _ _ named read.0 read.1 none

-- ---- policies

file_imported : (reading : Reading) (s : LogState) (caller : Caller) (file body : List ℕ) (at : ℤ) (docs : List YamlTree) (policies : List Policy) →
    is_name file ≡ true → docs_of body ≡ Ok docs → reading.policies ≡ Ok policies → latest_of file s.files ≡ None → length s.files < most_files →
    unlimited_turn reading s (ImportPolicy caller false file body at) ≡ next_policy s caller file body at
file_imported reading s caller file body at docs policies named d p none few = rw (named, d, p, none, lt-ltb (length s.files) most_files few) refl

-- what holds of what was read holds of the documents
of_read : (P : List YamlTree → Type 0) (body : List ℕ) (docs : List YamlTree) → docs_of body ≡ Ok docs → IfOk (docs_of body) P → P docs
of_read P body docs e h = subst (λ read. IfOk read P) e h

pub policies_imported : PoliciesAreRead → PoliciesAreImported
policies_imported law reading s caller file at named none few may =
    let answered = (law.2 file reading.policies).0 (of_read (λ docs. MayReadPolicies file docs reading.policies) policy_text law.0 law.1 may) in
    file_imported reading s caller file _ at _ _ named law.1 answered none few

-- ---- jobs

-- no project holds a job for which a test holds
none_passes : (test : HeldJob → Bool) (with : LoggedProject → Bool → Bool) (ps : List LoggedProject) → ((p : LoggedProject) → with p false ≡ false) → Each HoldsNoJob ps →
    list_any (λ p. with p (list_any test p.jobs)) ps ≡ false
none_passes test with [] f h = refl
none_passes test with (p ∷ ps) f h = rw (ap (λ held. with p (list_any test held)) h.0 ∙ f p) (none_passes test with ps f h.1)

is_free : (ps : List LoggedProject) (project id : List ℕ) → Each HoldsNoJob ps → list_any (λ p. not (bytes_eq (project_name p) project) && list_any (λ held. bytes_eq held.id id) p.jobs) ps ≡ false
is_free ps project id h = none_passes (λ held. bytes_eq held.id id) (λ p t. not (bytes_eq (project_name p) project) && t) ps (λ p. and-false (not (bytes_eq (project_name p) project))) h

is_unnamed : (ps : List LoggedProject) (project : List ℕ) (job : Job) → Each HoldsNoJob ps → is_named_elsewhere ps project job ≡ false
is_unnamed ps project job h = none_passes (is_like project job) (λ p t. bytes_eq (project_name p) project && t) ps (λ p. and-false (bytes_eq (project_name p) project)) h

is_not_held : (id : List ℕ) (ps : List LoggedProject) → Each HoldsNoJob ps → held_under id ps ≡ None
is_not_held id [] h = refl
is_not_held id (p ∷ ps) h = rw h.0 (is_not_held id ps h.1)

ids_are_free : (ps : List LoggedProject) (project : List ℕ) → Each HoldsNoJob ps → ids_free ps project [] (map (job_id project) demo_jobs) ≡ Ok true
ids_are_free ps project h = rw (is_free ps project (codes "demo-1") h, is_free ps project (codes "demo-2") h, is_free ps project (codes "demo-3") h) refl

unnamed_all : (ps : List LoggedProject) (project : List ℕ) (jobs : List Job) → Each HoldsNoJob ps → names_free ps project jobs ≡ Ok true
unnamed_all ps project [] h = refl
unnamed_all ps project (job ∷ jobs) h = rw (is_unnamed ps project job h) (unnamed_all ps project jobs h)

all_created : (ps : List LoggedProject) (project : List ℕ) → Each HoldsNoJob ps → map (imported_job project ps) demo_jobs ≡ created_jobs
all_created ps project h = rw (is_not_held (codes "demo-1") ps h, is_not_held (codes "demo-2") ps h, is_not_held (codes "demo-3") ps h) refl

list_imported : (reading : Reading) (s : LogState) (caller : Caller) (project body : List ℕ) (at : ℤ) (docs : List YamlTree) (jobs : List Job) (done : List ImportedJob) →
    is_some (latest_nodes project s.projects) ≡ true → docs_of body ≡ Ok docs → reading.jobs ≡ Ok jobs →
    ids_free s.projects project [] (map (job_id project) jobs) ≡ Ok true → names_free s.projects project jobs ≡ Ok true →
    map (imported_job project s.projects) jobs ≡ done → changes_any done ≡ true →
    unlimited_turn reading s (ImportJobs caller false project body at) ≡ adds 1 (Imported (s.jobs_number + 1) done) (jobs_row (moment s at) (s.jobs_number + 1) false project caller body)
list_imported reading s caller project body at docs jobs done there d j free unnamed all changes = rw (there, d, j, free, unnamed, all, changes) refl

pub jobs_imported : JobsAreRead → JobsAreImported
jobs_imported law reading s caller project at there h may =
    let answered = (law.2 (zones_in s) reading.jobs).0 (of_read (λ docs. MayReadJobs (zones_in s) docs reading.jobs) demo_jobs_text law.0 law.1 may) in
    list_imported reading s caller project _ at _ _ _ there law.1 answered (ids_are_free s.projects project h) (unnamed_all s.projects project demo_jobs h) (all_created s.projects project h) refl
