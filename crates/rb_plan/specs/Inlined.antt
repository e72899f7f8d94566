-- One sequence of the steps of a job and of all jobs that it refers to: slots, commands and option
-- values.
use Rattle.std.specs.Prelude.{ℕ, ◌+◌, Bool, false, List, [], ◌∷◌, ◌++◌, codes, map, Option, Some, None, option_map}
use Rattle.std.specs.Option.{option_or}
use Rattle.rb_causes.specs.declared.items.Prop.{Prop}
use Rattle.rb_option.specs.Settled.{settling_fault, settled_values}
use Rattle.rb_option.specs.declared.option_def.OptionDef.{OptionDef}
use Rattle.rb_expand.specs.Expanded.{word_expanded}
use Rattle.rb_job.specs.declared.job.JobAct.{JobAct}
use Rattle.rb_marks.specs.Tree.{Tree, slot, sub, no_branch}
use Rattle.rb_marks.specs.View.{Branch, branches_of}
use Rattle.rb_plan.specs.Access.{property}
use Rattle.rb_plan.specs.Resolved.{Path, ResolvedAct, own, referred, unresolved, ResolvedSteps, no_step, step}
use Rattle.rb_plan.specs.declared.world.HeldJob.{HeldJob}
use Rattle.rb_plan.specs.declared.accepted.Command.{Command}
use Rattle.rb_plan.specs.declared.refusal.Refusal.{Refusal}
use Rattle.rb_plan.specs.declared.refusal.Refusal.TheVariants.{BadOption}

-- a job in which steps stand, with its settled values, in a run in a project by a user
pub record Site : Type 0 where
  pub held : HeldJob
  pub values : List Prop
  pub project : List ℕ
  pub user : List ℕ

-- an option's value under its whole name
abbrev pub option_name : Prop → Prop
option_name value = property (codes "option." ++ value.key) value.text

-- a job's own names
abbrev pub own_names : List ℕ → List ℕ → List ℕ → List Prop
own_names name group id =
    property (codes "job.name") name
    ∷ property (codes "job.group") group
    ∷ property (codes "job.id") id
    ∷ []

-- what is told of the job of a site: its option values, its own names, and where and for whom it
-- runs
abbrev pub site_names : Site → List Prop
site_names site =
    map option_name site.values
    ++ (own_names site.held.job.name site.held.job.group site.held.id
    ++ property (codes "job.project") site.project ∷ property (codes "job.username") site.user ∷ [])

-- an argument of a reference, both its name and its value expanded
abbrev pub argument_given : List Prop → Prop → Prop
argument_given names arg = property (word_expanded names arg.key) (word_expanded names arg.text)

-- the arguments of a reference that stands at a site
abbrev pub given_at : Site → List Prop → List Prop
given_at site args = map (argument_given (site_names site)) args

-- the site of a referenced job
abbrev pub site_below : Site → List Prop → HeldJob → Site
site_below site args held =
    record site { held = held; values = settled_values held.job.options (given_at site args) }

-- the first of these options that is refused
abbrev pub refused_option : Path → List OptionDef → List Prop → Option Refusal
refused_option path options given =
    option_map (λ fault. BadOption path fault) (settling_fault options given)

-- the first option of a referenced job that is refused, in walk order
abbrev mutual
  pub option_in_act : Site → ResolvedAct → Option Refusal
  option_in_act site (own act) = None
  option_in_act site (referred path args held steps) =
      option_or (refused_option path held.job.options (given_at site args))
      (option_in_steps (site_below site args held) steps)
  option_in_act site (unresolved path cause) = None

  pub option_in_steps : Site → ResolvedSteps → Option Refusal
  option_in_steps site no_step = None
  option_in_steps site (step act handler keep steps) =
      option_or (option_in_act site act) (option_in_steps site steps)

abbrev pub command_at : Site → JobAct → Command
command_at site act = record {
  act = act;
  job_id = site.held.id;
  job_group = site.held.job.group;
  job_name = site.held.job.name;
  values = site.values;
}

abbrev pub handler_commands : Site → Option JobAct → List Command
handler_commands site None = []
handler_commands site (Some act) = command_at site act ∷ []

-- the commands and handlers, depth first, a handler directly behind those of its act
abbrev mutual
  pub act_commands : Site → ResolvedAct → List Command
  act_commands site (own act) = command_at site act ∷ []
  act_commands site (referred path args held steps) = commands (site_below site args held) steps
  act_commands site (unresolved path cause) = []

  pub commands : Site → ResolvedSteps → List Command
  commands site no_step = []
  commands site (step act handler keep steps) = act_commands site act
      ++ (handler_commands site handler ++ commands site steps)

abbrev pub handler_slots : Option JobAct → ℕ
handler_slots None = 0
handler_slots (Some act) = 1

-- how many commands and handlers there are
abbrev mutual
  pub act_slots : ResolvedAct → ℕ
  act_slots (own act) = 1
  act_slots (referred path args held steps) = slots steps
  act_slots (unresolved path cause) = 0

  pub slots : ResolvedSteps → ℕ
  slots no_step = 0
  slots (step act handler keep steps) = act_slots act + (handler_slots handler + slots steps)

-- a handler has the slot behind those of its act
abbrev pub numbered_handler : ℕ → Option JobAct → Option ℕ
numbered_handler n handler = option_map (λ act. n) handler

-- the steps with their slots numbered from n in the order of the commands; a referenced job is a
-- sequence of its own
abbrev mutual
  pub numbered_act : ℕ → ResolvedAct → Tree
  numbered_act n (own act) = slot n
  numbered_act n (referred path args held steps) =
      sub held.job.keepgoing (branches_of (numbered n steps))
  numbered_act n (unresolved path cause) = sub false no_branch

  pub numbered : ℕ → ResolvedSteps → List Branch
  numbered n no_step = []
  numbered n (step act handler keep steps) =
      (numbered_act n act, numbered_handler (n + act_slots act) handler, keep)
      ∷ numbered (n + (act_slots act + handler_slots handler)) steps

abbrev pub numbered_step : ℕ → ResolvedAct → Option JobAct → Bool → Branch
numbered_step n act handler keep =
    (numbered_act n act, numbered_handler (n + act_slots act) handler, keep)
