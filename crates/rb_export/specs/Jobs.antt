-- The documents that jobs are written as.
use Rattle.std.specs.Prelude.{ℕ, zero, suc, Bool, List, [], ◌∷◌, ◌++◌, map, codes, decimal, Option, Some, None, if◌then◌else◌}
use Rattle.rb_causes.specs.Signs.{space}
use Rattle.rb_causes.specs.Texts.{joined}
use Rattle.rb_causes.specs.declared.items.Prop.{Prop}
use Rattle.rb_cron.specs.Due.{Source}
use Rattle.rb_cron.specs.declared.fields.Fields.{Fields}
use Rattle.rb_marks.specs.declared.plan.Strategy.{Strategy}
use Rattle.rb_marks.specs.declared.plan.Strategy.TheVariants.{NodeFirst, Sequential, Parallel}
use Rattle.rb_option.specs.declared.option_def.OptionDef.{OptionDef}
use Rattle.rb_job.specs.declared.job.Job.{Job}
use Rattle.rb_job.specs.declared.job.JobStep.{JobStep}
use Rattle.rb_job.specs.declared.job.JobAct.{JobAct}
use Rattle.rb_job.specs.declared.job.JobAct.TheVariants.{Exec, Script, Refer}
use Rattle.rb_job.specs.declared.job.Orchestrator.{Orchestrator}
use Rattle.rb_job.specs.declared.job.Orchestrator.TheVariants.{Plain, Subset, RankTiered, MaxPercentage}
use Rattle.rb_canon.specs.Values.{CanonTree, one_text, list_of}
use Rattle.rb_export.specs.Slots.{Slot, present, map_with, text, text_if_any, text_unless, number_unless, true_if, false_unless, list_if_any, map_if_any}
use Rattle.rb_export.specs.Words.{words_text, pairs_text}

-- ---- steps

-- words, if there are some
abbrev pub args_value : List (List ℕ) → Option CanonTree
args_value [] = None
args_value (word ∷ words) = text (words_text (word ∷ words))

abbrev pub pairs_value : List Prop → Option CanonTree
pairs_value [] = None
pairs_value (pair ∷ pairs) = text (pairs_text (pair ∷ pairs))

abbrev pub reference_slots : List ℕ → List ℕ → List Prop → List Slot
reference_slots group name pairs =
    (codes "name", text name)
    ∷ (codes "group", text_unless [] group)
    ∷ (codes "args", pairs_value pairs)
    ∷ (codes "nodeStep", text (codes "true"))
    ∷ []

-- what a step does
abbrev pub act_slots : JobAct → List Slot
act_slots (Exec words) = (codes "exec", text (words_text words)) ∷ []
act_slots (Script script args) =
    (codes "script", text script) ∷ (codes "args", args_value args) ∷ []
act_slots (Refer group name pairs) =
    (codes "jobref", Some (map_with (reference_slots group name pairs))) ∷ []

abbrev pub handler_slots : JobAct → Bool → List Slot
handler_slots act keep = act_slots act ++ (codes "keepgoingOnSuccess", true_if keep) ∷ []

-- what is done where it fails
abbrev pub handler_value : Option JobAct → Bool → Option CanonTree
handler_value None keep = None
handler_value (Some act) keep = Some (map_with (handler_slots act keep))

abbrev pub step_slots : JobStep → List Slot
step_slots step =
    act_slots step.act
    ++ (codes "errorhandler", handler_value step.handler step.keep_on_success) ∷ []

abbrev pub step_value : JobStep → CanonTree
step_value step = map_with (step_slots step)

-- ---- the sequence, and the nodes

abbrev pub strategy_value : Strategy → Option CanonTree
strategy_value NodeFirst = None
strategy_value Sequential = text (codes "sequential")
strategy_value Parallel = text (codes "parallel")

abbrev pub sequence_slots : Job → List Slot
sequence_slots job =
    (codes "keepgoing", true_if job.keepgoing)
    ∷ (codes "strategy", strategy_value job.strategy)
    ∷ (codes "commands", Some (list_of (map step_value job.steps)))
    ∷ []

abbrev pub rank_order_value : Bool → Option CanonTree
rank_order_value down = if down then text (codes "descending") else None

-- how many nodes are in work at once, and which are left out
abbrev pub bound_slots : Job → List Slot
bound_slots job =
    (codes "threadcount", number_unless 1 job.threads)
    ∷ (codes "keepgoing", true_if job.keep_nodes)
    ∷ (codes "excludePrecedence", false_unless job.exclude_first)
    ∷ []

-- how they are ranked, and whether there may be none
abbrev pub rank_slots : Job → List Slot
rank_slots job =
    (codes "rankAttribute", text_if_any job.rank_by)
    ∷ (codes "rankOrder", rank_order_value job.rank_down)
    ∷ (codes "successOnEmptyNodeFilter", true_if job.success_on_empty)
    ∷ []

abbrev pub dispatch_slots : Job → List Slot
dispatch_slots job = bound_slots job ++ rank_slots job

abbrev pub nodes_slots : Job → List Slot
nodes_slots job =
    (codes "filter", text job.filter)
    ∷ (codes "dispatch", map_if_any (present (dispatch_slots job)))
    ∷ []

-- ---- options

-- what an option may be
abbrev pub what_slots : OptionDef → List Slot
what_slots option =
    (codes "name", text option.name)
    ∷ (codes "value", text_if_any option.default)
    ∷ (codes "values", list_if_any (map one_text option.values))
    ∷ []

-- what its value has to be
abbrev pub check_slots : OptionDef → List Slot
check_slots option =
    (codes "enforced", true_if option.enforced)
    ∷ (codes "required", true_if option.required)
    ∷ (codes "regex", text_if_any option.pattern)
    ∷ (codes "multivalued", true_if option.multivalued)
    ∷ (codes "delimiter", text_unless (codes ",") option.delimiter)
    ∷ []

abbrev pub option_slots : OptionDef → List Slot
option_slots option = what_slots option ++ check_slots option

abbrev pub option_value : OptionDef → CanonTree
option_value option = map_with (option_slots option)

-- ---- the orchestrator, and the schedule

abbrev pub number_slots : List ℕ → ℕ → List Slot
number_slots key number = (key, text (decimal number)) ∷ []

-- an orchestrator with its number
abbrev pub numbered_slots : List ℕ → List ℕ → ℕ → List Slot
numbered_slots name key number =
    (codes "type", text name)
    ∷ (codes "configuration", Some (map_with (number_slots key number)))
    ∷ []

abbrev pub tiered_slots : List Slot
tiered_slots = (codes "type", text (codes "rankTiered")) ∷ []

abbrev pub orchestrator_value : Orchestrator → Option CanonTree
orchestrator_value Plain = None
orchestrator_value (Subset count) =
    Some (map_with (numbered_slots (codes "subset") (codes "count") count))
orchestrator_value RankTiered = Some (map_with tiered_slots)
orchestrator_value (MaxPercentage percent) =
    Some (map_with (numbered_slots (codes "maxPercentage") (codes "percent") percent))

-- the seven texts of a schedule
abbrev pub crontab_of : Fields → List ℕ
crontab_of f =
    joined space (f.seconds ∷ f.minute ∷ f.hour ∷ f.day ∷ f.month ∷ f.weekday ∷ f.year ∷ [])

abbrev pub schedule_slots : Fields → List Slot
schedule_slots fields = (codes "crontab", text (crontab_of fields)) ∷ []

abbrev pub schedule_value : Option Source → Option CanonTree
schedule_value None = None
schedule_value (Some source) = Some (map_with (schedule_slots source.fields))

-- ---- jobs

-- what a job is called
abbrev pub naming_slots : Job → List Slot
naming_slots job =
    (codes "id", text_if_any job.id)
    ∷ (codes "name", text job.name)
    ∷ (codes "group", text_unless [] job.group)
    ∷ []

-- what it does, and on which nodes
abbrev pub work_slots : Job → List Slot
work_slots job =
    (codes "sequence", Some (map_with (sequence_slots job)))
    ∷ (codes "nodefilters", Some (map_with (nodes_slots job)))
    ∷ []

-- its options, how its nodes are drawn, and when it is due
abbrev pub rest_slots : Job → List Slot
rest_slots job =
    (codes "options", list_if_any (map option_value job.options))
    ∷ (codes "orchestrator", orchestrator_value job.orchestrator)
    ∷ (codes "schedule", schedule_value job.schedule)
    ∷ []

-- whether it may run
abbrev pub leave_slots : Job → List Slot
leave_slots job =
    (codes "multipleExecutions", true_if job.multiple)
    ∷ (codes "executionEnabled", false_unless job.enabled)
    ∷ (codes "scheduleEnabled", false_unless job.schedule_enabled)
    ∷ []

abbrev pub job_slots : Job → List Slot
job_slots job = naming_slots job ++ (work_slots job ++ (rest_slots job ++ leave_slots job))

abbrev pub job_value : Job → CanonTree
job_value job = map_with (job_slots job)

-- ---- documents

-- an item in front of the first part
abbrev pub onto_part : {A : Type 0} → A → List (List A) → List (List A)
onto_part x [] = (x ∷ []) ∷ []
onto_part x (part ∷ parts) = (x ∷ part) ∷ parts

-- Parts of at most 1,000 items. So many may follow in the first of them, behind its first item.
abbrev pub thousands : {A : Type 0} → ℕ → List A → List (List A)
thousands room [] = []
thousands zero (x ∷ xs) = (x ∷ []) ∷ thousands 999 xs
thousands (suc room) (x ∷ xs) = onto_part x (thousands room xs)

abbrev pub jobs_value : List Job → CanonTree
jobs_value jobs = list_of (map job_value jobs)

-- each document has the next 1,000 jobs
abbrev pub jobs_values : List Job → List CanonTree
jobs_values jobs = map jobs_value (thousands 999 jobs)
