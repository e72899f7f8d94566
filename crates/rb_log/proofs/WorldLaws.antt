-- The world of a legal log is sound: what its rows import was read.
use Rattle.std.proofs.Common.{◌≡◌, ◌∙◌, ◌≤◌, ℕ, ℤ, List, [], ◌∷◌, length, map, Bool, true, false, ◌&&◌, bytes_eq, nat_le, Ok, Result, Err, is_some, IfOk, ap, sym, subst, refl, arith, if◌then◌else◌}
use Rattle.std.specs.List.{list_all}
use Rattle.std.specs.Ordering.{match_ordering, nat_cmp}
use Rattle.std.specs.Cmp.Lexicographic.{slice_cmp}
use Rattle.std.specs.declared.cmp.Ordering.{Ordering}
use Rattle.std.specs.declared.cmp.Ordering.TheVariants.{Less, Equal, Greater}
use Rattle.std.proofs.lemmas.Bool.{and_parts, and_from}
use Rattle.rb_causes.specs.declared.row.Row.{Row}
use Rattle.rb_causes.specs.Texts.{differ}
use Rattle.rb_yaml.specs.Documents.{docs_of}
use Rattle.rb_yaml.specs.Tree.{YamlTree}
use Rattle.rb_node.specs.declared.node.Node.{Node}
use Rattle.rb_inventory.specs.Inventories.{inventory_of}
use Rattle.rb_inventory.specs.Laws.{has_apart_attributes, has_sound_tags, is_sound_prop, has_sound_parts as is_read_node}
use Rattle.rb_inventory.specs.declared.inventory.Inventory.{Inventory}
use Rattle.rb_inventory.proofs.Lawful.{names_differ_law, nodes_are_few_law}
use Rattle.rb_inventory.proofs.Sound.{nodes_are_sound_law}
use Rattle.rb_inventory_laws.proofs.Apart.{read_attributes_differ}
use Rattle.rb_cron.specs.declared.zone.NamedZone.{NamedZone}
use Rattle.rb_job.specs.Jobs.{AreJobsOf}
use Rattle.rb_job.specs.Sound.{is_sound_job}
use Rattle.rb_job.specs.declared.job.Job.{Job}
use Rattle.rb_job.proofs.SoundJobs.{jobs_are_sound_law}
use Rattle.rb_plan.specs.declared.world.HeldJob.{HeldJob}
use Rattle.rb_plan.specs.Sound.{is_sound_node, is_sound_project, IsSoundWorld}
use Rattle.rb_log.specs.Readings.{MayReadJobs, jobs_of}
use Rattle.rb_log.specs.Rows.{is_nodes, is_jobs, is_zone, row_caller}
use Rattle.rb_log.specs.World.{LoggedProject, project_name, put_nodes, with_jobs, with_fire, is_fire, fired_by, latest, zones_of, projects_at, latest_nodes, read_or, inventory_in, imported_by, unless_same, put_job, put_jobs, jobs_in, project_with}
use Rattle.rb_log.specs.Sameness.{same_job}
use Rattle.rb_log.specs.LogState.{LogState, log_state, world_of}
use Rattle.rb_log.specs.Moves.{must, read_as, is_name}
use Rattle.rb_log.specs.Legal.{Adds, IsAdded, IsLegalLog, is_checked}
use Rattle.rb_log.specs.declared.answer.Answer.{Answer}
use Rattle.rb_log.specs.declared.answer.Answer.TheVariants as answer
use Rattle.rb_log.specs.declared.call.Call.TheVariants.{ImportNodes, ImportJobs}
use Rattle.rb_log.proofs.TurnLaws.{bind_row}
use Rattle.rb_log.proofs.EndLaws.{added, named_by, kind_is}

-- ---- what a row imports was read

read_ok : {A E : Type 0} (f : E → Answer) (r : Result A E) (x : A) → read_as f r ≡ Ok x → r ≡ Ok x
read_ok f (Ok y) x h = ap (λ r. Ok (read_or y r)) h
read_ok f (Err e) x h = absurd (grind (arith, h))

-- the documents of the row were read, and are those of an inventory
record HasNodes (row : Row) : Type 0 where
  docs : List YamlTree
  inventory : Inventory
  read : docs_of row.body ≡ Ok docs
  is : inventory_of docs ≡ Ok inventory

-- and of jobs
record HasJobs (zones : List NamedZone) (row : Row) : Type 0 where
  docs : List YamlTree
  read : docs_of row.body ≡ Ok docs
  jobs : AreJobsOf zones docs (jobs_of zones docs)

has_nodes : (past : List Row) (row : Row) → IsLegalLog (row ∷ past) → is_nodes row ≡ true
    → HasNodes row
has_nodes past row h is =
    let s : LogState = log_state past in
    let kind : row.kind ≡ 2 = kind_is row 2 is in
    let adds : Adds s row (ImportNodes row.name row.body row.at) =
    subst (IsAdded s row) (named_by s row 2 kind) (added past row 0 h kind) in
    let a = bind_row (must (is_name row.name) answer.BadName) _ row adds.added in
    let b = bind_row (read_as answer.BadYaml (docs_of row.body)) _ row a.2 in
    let c = bind_row (read_as answer.BadNodes (inventory_of b.0)) _ row b.2 in record {
      docs = b.0;
      inventory = c.0;
      read = read_ok answer.BadYaml (docs_of row.body) b.0 b.1;
      is = read_ok answer.BadNodes (inventory_of b.0) c.0 c.1;
    }

has_jobs : (past : List Row) (row : Row) → IsLegalLog (row ∷ past) → is_jobs row ≡ true
    → HasJobs (zones_of (latest is_zone past)) row
has_jobs past row h is =
    let s : LogState = log_state past in
    let zones : List NamedZone = zones_of (latest is_zone past) in
    let kind : row.kind ≡ 3 = kind_is row 3 is in
    let adds : Adds s row (ImportJobs (row_caller row) (is_checked row) row.name row.body row.at) =
    subst (IsAdded s row) (named_by s row 3 kind) (added past row 1 h kind) in
    let a = bind_row (must (is_some (latest_nodes row.name s.projects)) answer.NoProject) _ row
    adds.added in
    let b = bind_row (read_as answer.BadYaml (docs_of row.body)) _ row a.2 in
    let c = bind_row (read_as answer.BadJobs adds.reading.jobs) _ row b.2 in
    let read : docs_of row.body ≡ Ok b.0 = read_ok answer.BadYaml (docs_of row.body) b.0 b.1 in
    let gave : adds.reading.jobs ≡ Ok c.0 = read_ok answer.BadJobs adds.reading.jobs c.0 c.1 in
    let may : MayReadJobs zones b.0 adds.reading.jobs =
    subst (λ r. IfOk r (λ docs. MayReadJobs zones docs adds.reading.jobs)) read adds.may_read in
    let are : AreJobsOf zones b.0 c.0 = subst (MayReadJobs zones b.0) gave may in record {
      docs = b.0;
      read = read;
      jobs = subst (AreJobsOf zones b.0) are.jobs_are are;
    }

-- ---- jobs

abbrev is_sound_held : HeldJob → Bool
is_sound_held held = is_sound_job held.job

abbrev are_sound : List HeldJob → Bool
are_sound jobs = list_all is_sound_held jobs

one_sound : (o : Ordering) (a b c : List HeldJob) → are_sound a ≡ true → are_sound b ≡ true
    → are_sound c ≡ true → are_sound (match_ordering o a b c) ≡ true
one_sound Less a b c x y z = x
one_sound Equal a b c x y z = y
one_sound Greater a b c x y z = z

unless_sound : (b : Bool) (new held : HeldJob) → is_sound_held new ≡ true
    → is_sound_held held ≡ true → is_sound_held (if b then held else new) ≡ true
unless_sound true new held h k = k
unless_sound false new held h k = h

put_sound : (new : HeldJob) (hs : List HeldJob) → is_sound_held new ≡ true → are_sound hs ≡ true
    → are_sound (put_job new hs) ≡ true
put_sound new [] h k = and_from (is_sound_held new) true h refl
put_sound new (x ∷ hs) h k =
    let parts = and_parts (is_sound_held x) (are_sound hs) k in
    one_sound (slice_cmp nat_cmp new.id x.id) _ _ _
    (and_from (is_sound_held new) (are_sound (x ∷ hs)) h k)
    (and_from (is_sound_held (unless_same new x)) (are_sound hs)
    (unless_sound (same_job x.job new.job) new x h parts.0) parts.1)
    (and_from (is_sound_held x) (are_sound (put_job new hs)) parts.0
    (put_sound new hs h parts.1))

jobs_put : (row : Row) (jobs : List Job) (held : List HeldJob)
    → list_all is_sound_job jobs ≡ true → are_sound held ≡ true
    → are_sound (put_jobs row jobs held) ≡ true
jobs_put row [] held h k = k
jobs_put row (job ∷ jobs) held h k =
    let parts = and_parts (is_sound_job job) (list_all is_sound_job jobs) h in
    jobs_put row jobs (put_job (imported_by row job) held) parts.1
    (put_sound (imported_by row job) held parts.0 k)

row_sound : (zones : List NamedZone) (row : Row) → HasJobs zones row
    → list_all is_sound_job (jobs_in zones row) ≡ true
row_sound zones row h =
    ap (λ r. list_all is_sound_job (jobs_of zones (read_or [] r))) h.read
    ∙ jobs_are_sound_law zones h.docs (jobs_of zones h.docs) h.jobs

-- a row that fires jobs leaves what they are
fired_sound : (b : Bool) (at : ℤ) (held : HeldJob) → is_sound_held held ≡ true
    → is_sound_held (if b then record held { looked = at } else held) ≡ true
fired_sound true at held h = h
fired_sound false at held h = h

all_fired : (row : Row) (hs : List HeldJob) → are_sound hs ≡ true
    → are_sound (map (fired_by row) hs) ≡ true
all_fired row [] h = refl
all_fired row (x ∷ hs) h =
    let parts = and_parts (is_sound_held x) (are_sound hs) h in
    and_from (is_sound_held (fired_by row x)) (are_sound (map (fired_by row) hs))
    (fired_sound (bytes_eq x.id row.name) row.at x parts.0) (all_fired row hs parts.1)

-- ---- projects

-- the nodes of each were read, and its jobs are sound
abbrev AllSound : List LoggedProject → Type 0
AllSound [] = Unit {0}
AllSound (p ∷ ps) = (HasNodes p.nodes.row × (are_sound p.jobs ≡ true)) × AllSound ps

one_of : (o : Ordering) (a b c : List LoggedProject) → AllSound a → AllSound b → AllSound c
    → AllSound (match_ordering o a b c)
one_of Less a b c x y z = x
one_of Equal a b c x y z = y
one_of Greater a b c x y z = z

put_read : (row : Row) (ps : List LoggedProject) → HasNodes row → AllSound ps
    → AllSound (put_nodes row ps)
put_read row [] h k = ((h, refl), tt)
put_read row (p ∷ ps) h k =
    one_of (slice_cmp nat_cmp row.name (project_name p)) _ _ _ ((h, refl), k)
    ((h, k.0.1), k.1) (k.0, put_read row ps h k.1)

with_jobs_sound : (b : Bool) (zones : List NamedZone) (row : Row) (p : LoggedProject)
    → HasJobs zones row → HasNodes p.nodes.row × (are_sound p.jobs ≡ true)
    → let q : LoggedProject = if b then record p { jobs = put_jobs row (jobs_in zones row) p.jobs }
    else p in
    HasNodes q.nodes.row × (are_sound q.jobs ≡ true)
with_jobs_sound true zones row p h k =
    (k.0, jobs_put row (jobs_in zones row) p.jobs (row_sound zones row h) k.1)
with_jobs_sound false zones row p h k = k

all_with_jobs : (zones : List NamedZone) (row : Row) (ps : List LoggedProject)
    → HasJobs zones row → AllSound ps → AllSound (map (with_jobs zones row) ps)
all_with_jobs zones row [] h k = tt
all_with_jobs zones row (p ∷ ps) h k = (
  with_jobs_sound (bytes_eq (project_name p) row.name) zones row p h k.0,
  all_with_jobs zones row ps h k.1,
)

all_with_fire : (row : Row) (ps : List LoggedProject) → AllSound ps
    → AllSound (map (with_fire row) ps)
all_with_fire row [] k = tt
all_with_fire row (p ∷ ps) k =
    ((k.0.0, all_fired row p.jobs k.0.1), all_with_fire row ps k.1)

after_by : (n j f : Bool) (zones : List NamedZone) (row : Row) (ps : List LoggedProject)
    → (n ≡ true → HasNodes row) → (j ≡ true → HasJobs zones row) → AllSound ps
    → AllSound (if n then put_nodes row ps else if j then map (with_jobs zones row) ps
    else if f then map (with_fire row) ps else ps)
after_by true j f zones row ps h k all = put_read row ps (h refl) all
after_by false true f zones row ps h k all = all_with_jobs zones row ps (k refl) all
after_by false false true zones row ps h k all = all_with_fire row ps all
after_by false false false zones row ps h k all = all

all_sound : (past : List Row) → IsLegalLog past → AllSound (projects_at past)
all_sound [] h = tt
all_sound (row ∷ past) h =
    after_by (is_nodes row) (is_jobs row) (is_fire row) (zones_of (latest is_zone past)) row
    (projects_at past) (has_nodes past row h) (has_jobs past row h) (all_sound past h.0)

-- ---- as a verdict looks at them

nodes_sound : (nodes : List Node) → list_all is_read_node nodes ≡ true
    → list_all has_apart_attributes nodes ≡ true → list_all is_sound_node nodes ≡ true
nodes_sound [] h k = refl
nodes_sound (node ∷ nodes) h k =
    let a = and_parts (is_read_node node) (list_all is_read_node nodes) h in
    let b = and_parts (has_apart_attributes node) (list_all has_apart_attributes nodes) k in
    let c = and_parts (has_sound_tags node) (list_all is_sound_prop node.attrs) a.0 in
    and_from (is_sound_node node) (list_all is_sound_node nodes)
    (and_from (has_apart_attributes node) (list_all is_sound_prop node.attrs) b.0 c.1)
    (nodes_sound nodes a.1 b.1)

few : (n : ℕ) → n ≤ 10000 → nat_le n 10000 ≡ true
few n h = grind (arith, h)

project_sound : (p : LoggedProject) → HasNodes p.nodes.row → are_sound p.jobs ≡ true
    → is_sound_project (project_with p) ≡ true
project_sound p k h =
    let is : inventory_in p.nodes.row ≡ k.inventory =
    ap (λ r. read_or (record { nodes = [] }) (inventory_of (read_or [] r))) k.read
    ∙ ap (λ r. read_or (record { nodes = [] }) r) k.is in
    let nodes : List Node = k.inventory.nodes in
    subst (λ (i : Inventory).
    ((list_all is_sound_node i.nodes && nat_le (length i.nodes) 10000)
    && (differ (map (λ node. node.name) i.nodes)
    && list_all (λ held. is_sound_job held.job) p.jobs)) ≡ true)
    (sym is)
    (and_from (list_all is_sound_node nodes && nat_le (length nodes) 10000) _
    (and_from (list_all is_sound_node nodes) (nat_le (length nodes) 10000)
    (nodes_sound nodes (nodes_are_sound_law k.docs k.inventory k.is)
    (read_attributes_differ p.nodes.row.body k.docs k.inventory k.read k.is))
    (few (length nodes) (nodes_are_few_law k.docs k.inventory k.is)))
    (and_from (differ (map (λ node. node.name) nodes)) _
    (names_differ_law k.docs k.inventory k.is) h))

projects_sound : (ps : List LoggedProject) → AllSound ps
    → list_all is_sound_project (map project_with ps) ≡ true
projects_sound [] k = refl
projects_sound (p ∷ ps) k =
    and_from (is_sound_project (project_with p)) _ (project_sound p k.0.0 k.0.1)
    (projects_sound ps k.1)

pub world_sound : (past : List Row) → IsLegalLog past → IsSoundWorld (world_of (log_state past))
world_sound past h = projects_sound (projects_at past) (all_sound past h)
