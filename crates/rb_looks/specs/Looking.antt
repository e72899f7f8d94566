-- What is looked for before something is shown, and what is then shown.
use Rattle.std.specs.Prelude.{◌≡◌, ℕ, Bool, ◌&&◌, List, [], ◌∷◌, length, map, filter, reverse, take, drop, find, bytes_eq, codes, Option, Some, None, Result, Ok, Err, if◌then◌else◌}
use Rattle.std.specs.List.{list_any}
use Rattle.rb_yaml.specs.Faults.{◌>>=◌}
use Rattle.rb_acl.specs.declared.policy.Caller.{Caller}
use Rattle.rb_acl.specs.Deciding.{is_allowed}
use Rattle.rb_acl.specs.declared.policy.Decision.{Decision}
use Rattle.rb_marks.specs.declared.mark.Status.{Status}
use Rattle.rb_plan.specs.Access.{Access, job_decision}
use Rattle.rb_plan.specs.declared.world.HeldJob.{HeldJob}
use Rattle.rb_plan.specs.declared.world.Project.{Project}
use Rattle.rb_plan.specs.declared.world.World.{World}
use Rattle.rb_log.specs.Executions.{Execution}
use Rattle.rb_log.specs.LogState.{LogState}
use Rattle.rb_log.specs.Looks.{has_status, job_view, job_views, may_read_node, page_of}
use Rattle.rb_log.specs.Moves.{Moved, only, moved_or, permitted_on_kind}
use Rattle.rb_log.specs.Runs.{known, may_act_on, view_of}
use Rattle.rb_log.specs.World.{ProjectJob}
use Rattle.rb_log.specs.declared.answer.Answer.{Answer}
use Rattle.rb_log.specs.declared.answer.Answer.TheVariants as answer
use Rattle.rb_log.specs.declared.shown.JobView.{JobView}
use Rattle.rb_log.specs.declared.shown.Shown.{Shown}
use Rattle.rb_log.specs.declared.shown.Shown.TheVariants as shown
use Rattle.rb_log.specs.declared.shown.View.{View}
use Rattle.rb_tables.specs.Tables.{IsOf}
use Rattle.rb_tables.specs.Worlds.{job_in}
use Rattle.rb_tables.specs.declared.execution.Execution.{Execution as DeskExecution}
use Rattle.rb_tables.specs.Rights.{access_in_project}
use Rattle.rb_tables.specs.Progress.{HasTiers}
use Rattle.rb_tables.specs.Changes.{IsAnswerOf}
use Rattle.rb_looks.specs.declared.shown_executions.PageChoice.{PageChoice}

-- what the rules show, or else answer
abbrev pub ShowsOrAnswers : Moved → Result Shown Answer → Type 0
ShowsOrAnswers moved (Ok shown) = moved ≡ only (answer.Shown shown)
ShowsOrAnswers moved (Err a) = IsAnswerOf moved a

-- ---- jobs

-- the job may be read
abbrev pub may_read : Access → HeldJob → Bool
may_read access held = is_allowed (job_decision access (codes "read") held)

-- those of a project that may be read
abbrev pub readable_jobs : Access → Project → List ProjectJob
readable_jobs access p = map (job_in p) (filter (may_read access) p.jobs)

-- a job of this project as it is shown
abbrev pub shown_in : List ℕ → HeldJob → JobView
shown_in project held = job_view (record { project = project; held = held })

-- those that the decision in the same place allows
abbrev pub permitted : {A : Type 0} → List Decision → List A → List A
permitted [] items = []
permitted (decision ∷ decisions) [] = []
permitted (decision ∷ decisions) (item ∷ items) =
    if is_allowed decision then item ∷ permitted decisions items else permitted decisions items

-- ---- executions

-- the ids of jobs
abbrev pub job_ids : List HeldJob → List (List ℕ)
job_ids = map (λ held. held.id)

-- it is of one of the jobs, and has the status if one is named
abbrev pub is_chosen : PageChoice → Execution → Bool
is_chosen choice e =
    list_any (λ id. bytes_eq id e.accepted.job) choice.jobs && has_status choice.status e

-- those that are asked for, newest first
abbrev pub chosen_newest_first : PageChoice → List Execution → List Execution
chosen_newest_first choice es = filter (is_chosen choice) (reverse es)

-- How many there are of these, and those that are shown.
pub record IsPageOf (choice : PageChoice) (found : List Execution) (total : ℕ) (views : List View)
    : Type 0 where
  pub total_is : total ≡ length found
  pub shown : views ≡ map view_of (take choice.max (drop choice.offset found))

-- ---- looks in a world

-- the execution of a number, where the caller may read its job
abbrev pub readable : LogState → Caller → ℕ → Result Execution Answer
readable s caller number =
    known s number >>= λ e. may_act_on s caller (codes "read") e >>= λ permission. Ok e

-- It is this one of the log, which the caller may read, and has a tier for each node.
pub record IsReadable (s : LogState) (caller : Caller) (number : ℕ) (e : DeskExecution)
    : Type 0 where
  pub execution : Execution
  pub is : IsOf e execution
  pub tiers : HasTiers execution
  pub may : readable s caller number ≡ Ok execution

-- the project of this name
abbrev pub project_named : World → List ℕ → Option Project
project_named world name = find (λ p. bytes_eq p.name name) world.projects

-- what is shown of it, if it is there
abbrev pub if_there : Option Project → (Project → Moved) → Moved
if_there None show = only answer.NoProject
if_there (Some p) show = show p

-- its jobs that the caller may read
abbrev pub jobs_looked_at : World → Caller → List ℕ → Moved
jobs_looked_at world caller project = if_there (project_named world project) (λ p.
    only (answer.Shown (shown.Jobs (job_views
    (readable_jobs (access_in_project world p.name caller) p)))))

-- the nodes that may be read by this access, which has the permission on their kind
abbrev pub nodes_by : Access → Project → Moved
nodes_by access p = moved_or (
    permitted_on_kind access (codes "read") (codes "node") >>= λ permission.
    Ok (only (answer.Shown (shown.Resources
    (filter (may_read_node access) p.inventory.nodes)))))

-- its nodes that the caller may read
abbrev pub nodes_looked_at : World → Caller → List ℕ → Moved
nodes_looked_at world caller project =
    if_there (project_named world project) (nodes_by (access_in_project world project caller))

-- those executions of the jobs of a project that may be read
abbrev pub choice_in : Access → Project → ℕ → ℕ → Option Status → PageChoice
choice_in access p max offset status = record {
  jobs = job_ids (filter (may_read access) p.jobs);
  status = status;
  max = max;
  offset = offset;
}

-- a page of them, where these executions are there
abbrev pub executions_in
    : World → List Execution → Caller → List ℕ → ℕ → ℕ → Option Status → Moved
executions_in world es caller project max offset status =
    if_there (project_named world project) (λ p.
    only (answer.Shown (page_of
    (chosen_newest_first
    (choice_in (access_in_project world p.name caller) p max offset status) es) max offset)))
