-- Whether a caller may do something, as a desk looks for it.
use Rattle.std.specs.Option.{option_or}
use Rattle.std.proofs.Common.{◌≡◌, ◌∙◌, ℕ, List, [], ◌∷◌, find, bytes_eq, Option, Some, None, option_map, ap, subst, sym, refl, map}
use Rattle.rb_causes.specs.declared.row.Row.{Row}
use Rattle.rb_acl.specs.Applying.{question_of, Question}
use Rattle.rb_acl.specs.Naming.{IsNamed}
use Rattle.rb_acl.specs.declared.policy.Caller.{Caller}
use Rattle.rb_acl.specs.declared.policy.Decision.{Decision}
use Rattle.rb_acl.specs.declared.policy.Policies.{Policies}
use Rattle.rb_acl.specs.declared.policy.Resource.{Resource}
use Rattle.rb_acl.specs.Deciding.{decision_of}
use Rattle.rb_acl.specs.declared.policy.Decision.TheVariants.{Allowed, Denied, NoneAllows}
use Rattle.rb_acl.proofs.Firsts.{denial, allowance}
use Rattle.rb_plan.specs.Access.{Access, decision_on}
use Rattle.rb_plan.specs.Worlds.{Found, found_among}
use Rattle.rb_plan.specs.declared.world.HeldJob.{HeldJob}
use Rattle.rb_plan.specs.declared.world.Project.{Project}
use Rattle.rb_log.specs.Executions.{Execution}
use Rattle.rb_log.specs.LogState.{log_state, world_of}
use Rattle.rb_log.specs.Runs.{may_act_on, permitted_on}
use Rattle.rb_log.specs.World.{ProjectJob, held_under, projects_at, LoggedProject, project_with, held_in}
use Rattle.rb_tables.specs.Tables.{IsTabled}
use Rattle.rb_tables.specs.Worlds.{held_among, job_in}
use Rattle.rb_tables.specs.Rights.{act_on, may_act}
use Rattle.rb_tables.specs.declared.tables.Tables.{Tables}

pub held_same : (id : List ℕ) (ps : List LoggedProject)
    → held_among id (map project_with ps) ≡ held_under id ps
held_same id [] = refl
held_same id (p ∷ ps) = ap (option_or (held_in id p)) (held_same id ps)

named_by : (policies : Policies) (question : Question) (d : Decision)
    → decision_of policies question ≡ d → IsNamed policies d
named_by policies question (Denied place) h =
    let f = denial policies question place h in (f.0, f.1, f.2)
named_by policies question (Allowed place) h =
    let f = (allowance policies question place h).0 in (f.0, f.1, f.2)
named_by policies question NoneAllows h = tt

-- so does each decision
pub decision_is_named : (policies : Policies) (question : Question)
    → IsNamed policies (decision_of policies question)
decision_is_named policies question =
    named_by policies question (decision_of policies question) refl

-- each decision of an access names a rule
pub access_is_named : (access : Access) (policies : Policies) (action : List ℕ)
    (resource : Resource) (decision : Decision) → access.policies ≡ policies
    → decision ≡ decision_on access action resource → IsNamed policies decision
access_is_named access policies action resource decision same is =
    subst (IsNamed policies) (sym is)
    (subst (λ p. IsNamed p (decision_on access action resource)) same
    (decision_is_named access.policies (question_of access.caller access.here resource action)))

-- ---- the job of an id

abbrev pub as_job : Found → ProjectJob
as_job f = record { project = f.project.name; held = f.held }

found_first : (o : Option HeldJob) (p : Project) (x : Option ProjectJob) (y : Option Found)
    → x ≡ option_map as_job y
    → option_or (option_map (job_in p) o) x
    ≡ option_map as_job (option_or (option_map (λ h. record { project = p; held = h }) o) y)
found_first None p x y h = h
found_first (Some held) p x y h = refl

-- it is held where it is found
pub held_is_found : (id : List ℕ) (ps : List Project)
    → held_among id ps ≡ option_map as_job (found_among id ps)
held_is_found id [] = refl
held_is_found id (p ∷ ps) =
    found_first (find (λ held. bytes_eq held.id id) p.jobs) p (held_among id ps)
    (found_among id ps) (held_is_found id ps)

-- ---- what may be done on an execution

on_held : (past : List Row) (caller : Caller) (action : List ℕ)
    (o : Option ProjectJob)
    → act_on (world_of (log_state past)) caller action o
    ≡ permitted_on (log_state past) caller action o
on_held past caller action None = refl
on_held past caller action (Some p) = refl

-- it is allowed in the world of the tables where the log allows it
pub acts_as_logged : (t : Tables) (past : List Row) (caller : Caller) (action : List ℕ)
    (e : Execution) → IsTabled t past
    → may_act t.world caller action e.accepted.job ≡ may_act_on (log_state past) caller action e
acts_as_logged t past caller action e tabled =
    ap (λ w. may_act w caller action e.accepted.job) tabled.says.world
    ∙ ap (act_on (world_of (log_state past)) caller action)
    (held_same e.accepted.job (projects_at past))
    ∙ on_held past caller action (held_under e.accepted.job (projects_at past))
