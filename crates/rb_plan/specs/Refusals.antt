-- Each rule of refusal by itself, and its number.
use Rattle.std.specs.Prelude.{ℕ, ◌*◌, nat_le, List, [], ◌∷◌, Option, Some, None, option_map, if◌then◌else◌}
use Rattle.rb_acl.specs.declared.policy.Decision.{Decision}
use Rattle.rb_acl.specs.Deciding.{is_allowed}
use Rattle.rb_node.specs.declared.node.Node.{Node}
use Rattle.rb_job.specs.declared.job.Job.{Job}
use Rattle.rb_plan.specs.declared.refusal.Refusal.{Refusal}
use Rattle.rb_plan.specs.declared.refusal.Refusal.TheVariants.{NoJob, JobDenied, BadReference, ReferenceDenied, Disabled, AlreadyRunning, BadOption, NoNodeSelected, NoNodeAllowed, TooLarge}

-- the caller may not run the job
abbrev pub denied_job : Decision → Option Refusal
denied_job decision = if is_allowed decision then None else Some (JobDenied decision)

abbrev pub disabled : Job → Option Refusal
disabled job = if job.enabled then None else Some Disabled

-- it runs already and may not run twice at once
abbrev pub already_running : Job → Option ℕ → Option Refusal
already_running job running =
    if job.multiple then None else option_map (λ execution. AlreadyRunning execution) running

-- no node is selected, and that is no success
abbrev pub none_selected : Job → List Node → Option Refusal
none_selected job [] = if job.success_on_empty then None else Some NoNodeSelected
none_selected job (node ∷ nodes) = None

-- some node is selected and none may be run: the first that is selected
abbrev pub none_allowed : (Node → Decision) → List Node → List Node → Option Refusal
none_allowed decide [] runnable = None
none_allowed decide (node ∷ nodes) (n ∷ ns) = None
none_allowed decide (node ∷ nodes) [] = Some (NoNodeAllowed node.name (decide node))

-- there are more than 100,000 leaves
abbrev pub too_large : ℕ → ℕ → Option Refusal
too_large nodes slots =
    if nat_le (nodes * slots) 100000 then None else Some (TooLarge (nodes * slots))

-- the number under which a refusal is kept
abbrev pub refusal_number : Refusal → ℕ
refusal_number NoJob = 1
refusal_number (JobDenied decision) = 2
refusal_number (BadReference path cause) = 3
refusal_number (ReferenceDenied path decision) = 4
refusal_number Disabled = 5
refusal_number (AlreadyRunning execution) = 6
refusal_number (BadOption path fault) = 7
refusal_number NoNodeSelected = 8
refusal_number (NoNodeAllowed node decision) = 9
refusal_number (TooLarge leaves) = 10
