-- What a job has to be, that a verdict can be given on it.
use Rattle.std.specs.Prelude.{ℕ, Bool, true, false, not, ◌&&◌, nat_le, List, [], ◌∷◌, length, bytes_eq, Option, Some, None}
use Rattle.std.specs.List.{list_all, list_any}
use Rattle.rb_option.specs.declared.option_def.OptionDef.{OptionDef}
use Rattle.rb_job.specs.declared.job.Job.{Job}
use Rattle.rb_job.specs.declared.job.JobAct.{JobAct}
use Rattle.rb_job.specs.declared.job.JobAct.TheVariants.{Exec, Script, Refer}
use Rattle.rb_job.specs.declared.job.Orchestrator.{Orchestrator}
use Rattle.rb_job.specs.declared.job.Orchestrator.TheVariants.{Plain, Subset, RankTiered, MaxPercentage}

-- from the least to the greatest
abbrev pub is_between : ℕ → ℕ → ℕ → Bool
is_between least greatest n = nat_le least n && nat_le n greatest

-- the act refers to another job
abbrev pub refers : JobAct → Bool
refers (Exec words) = false
refers (Script text args) = false
refers (Refer group name args) = true

-- a handler refers to no job
abbrev pub is_sound_handler : Option JobAct → Bool
is_sound_handler None = true
is_sound_handler (Some act) = not (refers act)

-- no option has the name of one before it
abbrev pub names_differ : List OptionDef → Bool
names_differ [] = true
names_differ (option ∷ options) =
    not (list_any (λ other. bytes_eq other.name option.name) options) && names_differ options

-- a percentage, where there is one, is 1 to 100
abbrev pub is_sound_orchestrator : Orchestrator → Bool
is_sound_orchestrator Plain = true
is_sound_orchestrator (Subset count) = true
is_sound_orchestrator RankTiered = true
is_sound_orchestrator (MaxPercentage percent) = is_between 1 100 percent

-- a job has 1 to 200 steps, handlers that refer to no job, options whose names differ, 1 to 1,000
-- threads, and a sound orchestrator
abbrev pub is_sound_job : Job → Bool
is_sound_job job =
    (is_between 1 200 (length job.steps)
    && list_all (λ step. is_sound_handler step.handler) job.steps)
    && (names_differ job.options
    && (is_between 1 1000 job.threads && is_sound_orchestrator job.orchestrator))
