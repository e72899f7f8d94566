-- The lines that tell faults.
use Rattle.std.specs.Prelude.{ℕ, List, [], ◌∷◌, codes}
use Rattle.rb_command.specs.Lines.{fault_line, memory_line}
use Rattle.rb_fault_lines.specs.Lines.{yaml_line, node_line, policy_line, job_line}
use Rattle.rb_faults.specs.Kinds.{filter_kind}
use Rattle.rb_cron.specs.declared.schedule_err.ScheduleErr.{ScheduleErr}
use Rattle.rb_cron.specs.declared.schedule_err.ScheduleErr.TheVariants as crontabs
use Rattle.rb_tools.specs.declared.refusal.ToolRefusal.{ToolRefusal}
use Rattle.rb_tools.specs.declared.refusal.ToolRefusal.TheVariants.{Yaml, Node as OfNode, Policy, Job, Filter, Crontab, Zone, NoMemory}

-- the name of what is wrong with a crontab
abbrev pub crontab_kind : ScheduleErr → List ℕ
crontab_kind (crontabs.BadField n) = codes "BadField"
crontab_kind crontabs.BothDays = codes "BothDays"
crontab_kind crontabs.NoMemory = codes "NoMemory"

-- rundeskd: argument K: KIND; the first word of the command has the number 1
abbrev pub argument_line : List ℕ → List ℕ → List ℕ
argument_line number kind = fault_line (codes "argument " ∷ number ∷ codes ": " ∷ kind ∷ [])

-- how a refusal is told
abbrev pub refusal_line : List ℕ → ToolRefusal → List ℕ
refusal_line file (Yaml fault) = yaml_line file fault
refusal_line file (OfNode fault) = node_line file fault
refusal_line file (Policy fault) = policy_line file fault
refusal_line file (Job fault) = job_line file fault
refusal_line file (Filter error) = argument_line (codes "4") (filter_kind error)
refusal_line file (Crontab error) = argument_line (codes "2") (crontab_kind error)
refusal_line file Zone = argument_line (codes "3") (codes "BadZone")
refusal_line file NoMemory = memory_line

abbrev pub refusal_status : ToolRefusal → ℕ
refusal_status (Yaml fault) = 3
refusal_status (OfNode fault) = 3
refusal_status (Policy fault) = 3
refusal_status (Job fault) = 3
refusal_status (Filter error) = 3
refusal_status (Crontab error) = 3
refusal_status Zone = 3
refusal_status NoMemory = 7
