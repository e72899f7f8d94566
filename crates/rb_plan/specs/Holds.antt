-- What each refusal says of the asked job, in words of jobs, steps and nodes, and of the slots and
-- targets of the plan where it counts them.
use Rattle.std.specs.Prelude.{◌≡◌, ◌<◌, ◌≤◌, ◌⊎◌, ℕ, ◌*◌, false, true, List, [], ◌∷◌, ◌++◌, length, Contains, Some, None, unwrap_or}
use Rattle.rb_acl.specs.Deciding.{is_allowed}
use Rattle.rb_causes.specs.declared.items.Prop.{Prop}
use Rattle.rb_job.specs.declared.job.JobStep.{JobStep}
use Rattle.rb_job.specs.declared.job.JobAct.TheVariants.{Refer}
use Rattle.rb_node.specs.Filters.{selects}
use Rattle.rb_node.specs.declared.node.Node.{Node}
use Rattle.rb_option.specs.Settled.{settling_fault}
use Rattle.rb_option.specs.declared.option_err.OptionFault.{OptionFault}
use Rattle.rb_plan.specs.Inlined.{Site, site_below, given_at, slots}
use Rattle.rb_plan.specs.Resolved.{Path, label}
use Rattle.rb_plan.specs.Verdict.{Asked, may_run, may_run_on, site_of, steps_of, targets_of}
use Rattle.rb_plan.specs.Worlds.{referred_job}
use Rattle.rb_plan.specs.declared.world.Project.{Project}
use Rattle.rb_plan.specs.declared.world.HeldJob.{HeldJob}
use Rattle.rb_plan.specs.declared.refusal.RefCause.{RefCause}
use Rattle.rb_plan.specs.declared.refusal.RefCause.TheVariants.{NotFound, TooDeep, TooMany}
use Rattle.rb_plan.specs.declared.refusal.Refusal.{Refusal}
use Rattle.rb_plan.specs.declared.refusal.Refusal.TheVariants.{NoJob, JobDenied, BadReference, ReferenceDenied, Disabled, AlreadyRunning, BadOption, NoNodeSelected, NoNodeAllowed, TooLarge}

-- a step of a job refers to the job of this group and name, with these arguments
abbrev pub RefersTo : HeldJob → List ℕ → List ℕ → List Prop → Type 0
RefersTo held group name args = (s : JobStep) × Contains held.job.steps s
    × (s.act ≡ Refer group name args)

-- a path of references leads from one site to another
abbrev pub Leads : Project → Site → Path → Site → Type 0
Leads project site [] end = end ≡ site
Leads project site (title ∷ titles) end =
    (group : List ℕ) × (name : List ℕ) × (args : List Prop) × (next : HeldJob)
    × RefersTo site.held group name args × (title ≡ label group name)
    × (referred_job project group name ≡ Some next)
    × Leads project (site_below site args next) titles end

-- the path leads from the asked job to a site
abbrev pub Reaches : Asked → Path → Site → Type 0
Reaches a path end = Leads a.found.project (site_of a) path end

-- the path ends at a reference that stands at a site
abbrev pub EndsAt : Asked → Path → Site → List ℕ → List ℕ → List Prop → Type 0
EndsAt a path site group name args =
    (before : Path) × (path ≡ before ++ label group name ∷ []) × Reaches a before site
    × RefersTo site.held group name args

-- the reference at the path's end goes to no job, or nine references deep; or the path leads to a
-- job in a run of over 1,000 commands
abbrev pub IsBadReference : Asked → Path → RefCause → Type 0
IsBadReference a path NotFound =
    (site : Site) × (group : List ℕ) × (name : List ℕ) × (args : List Prop)
    × EndsAt a path site group name args × (referred_job a.found.project group name ≡ None)
IsBadReference a path TooDeep = (end : Site) × Reaches a path end × (length path ≡ 9)
IsBadReference a path TooMany = (end : Site) × Reaches a path end × (1000 < slots (steps_of a))

-- the options of the asked job, or those of the reference at the path's end, are refused so
abbrev pub IsBadOption : Asked → Path → OptionFault → Type 0
IsBadOption a path fault =
    ((path ≡ []) × (settling_fault a.found.held.job.options a.ask.given ≡ Some fault))
    ⊎ ((site : Site) × (group : List ℕ) × (name : List ℕ) × (args : List Prop) × (next : HeldJob)
    × EndsAt a path site group name args × (referred_job a.found.project group name ≡ Some next)
    × (settling_fault next.job.options (given_at site args) ≡ Some fault))

-- a node of the project that the ask's filter selects, or where it has none the job's
abbrev pub IsChosen : Asked → Node → Type 0
IsChosen a node =
    Contains a.found.project.inventory.nodes node
    × (selects (unwrap_or a.ask.filter a.found.held.job.filter)
    a.found.held.job.exclude_first node ≡ true)

-- an execution of the asked job runs
abbrev pub Runs : Asked → ℕ → Type 0
Runs a execution =
    Contains a.world.running (record { execution = execution; job = a.found.held.id })

-- the rule of a refusal holds
abbrev pub RuleHolds : Asked → Refusal → Type 0
RuleHolds a NoJob = ⊥
RuleHolds a (JobDenied decision) =
    (decision ≡ may_run a a.found.held) × (is_allowed decision ≡ false)
RuleHolds a (BadReference path cause) = IsBadReference a path cause
RuleHolds a (ReferenceDenied path decision) =
    (end : Site) × Reaches a path end × (0 < length path) × (decision ≡ may_run a end.held)
    × (is_allowed decision ≡ false)
RuleHolds a Disabled = a.found.held.job.enabled ≡ false
RuleHolds a (AlreadyRunning execution) =
    (a.found.held.job.multiple ≡ false) × Runs a execution
    × ((other : ℕ) → Runs a other → execution ≤ other)
RuleHolds a (BadOption path fault) = IsBadOption a path fault
RuleHolds a NoNodeSelected = (a.found.held.job.success_on_empty ≡ false)
    × ((node : Node) → IsChosen a node → ⊥)
RuleHolds a (NoNodeAllowed name decision) =
    ((node : Node) × IsChosen a node × (name ≡ node.name) × (decision ≡ may_run_on a node))
    × ((node : Node) → IsChosen a node → is_allowed (may_run_on a node) ≡ false)
RuleHolds a (TooLarge leaves) = (leaves ≡ length (targets_of a) * slots (steps_of a))
    × (100000 < leaves)
