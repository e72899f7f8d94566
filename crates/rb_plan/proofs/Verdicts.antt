-- How the parts of a verdict make the whole.
use Rattle.std.proofs.Common.{arith, lit<, ◌≡◌, ℕ, ◌≤◌, true, length, map, List, [], ◌∷◌, ◌++◌, Result, Ok, Err, IfOk, Option, Some, None, refl, sym, ap, ◌∙◌, subst}
use Rattle.std.specs.Option.{option_or}
use Rattle.rb_causes.specs.Causes.{unless}
use Rattle.rb_acl.specs.declared.policy.Caller.{Caller}
use Rattle.rb_acl.specs.declared.policy.Context.TheVariants as Context
use Rattle.rb_causes.specs.declared.items.Prop.{Prop}
use Rattle.rb_job.specs.declared.job.Job.{Job}
use Rattle.rb_marks.specs.View.{Branch, step_tree}
use Rattle.rb_node.specs.declared.node.Node.{Node}
use Rattle.rb_plan.specs.Acceptance.{Acceptance, acceptance}
use Rattle.rb_plan.specs.Access.{Access, node_run}
use Rattle.rb_plan.specs.Inlined.{Site, commands, numbered, option_in_steps, refused_option, slots}
use Rattle.rb_plan.specs.Judging.{IsInlined, Judges, asked_site, assembled, job_rules, node_rules}
use Rattle.rb_plan.specs.Refusals.{too_large}
use Rattle.rb_plan.specs.Resolved.{resolved_job}
use Rattle.rb_plan.specs.Sorting.{AreSorted}
use Rattle.rb_plan.specs.Sound.{is_sound_project}
use Rattle.rb_plan.specs.Targets.{chosen_nodes, dropped, targets}
use Rattle.rb_plan.specs.Verdict.{Asked, Verdicts, access_of, accepted_of, chosen_of, first_refusal, job_outline, may_run_on, site_of, steps_of, targets_of, verdict_of, verdict_on}
use Rattle.rb_plan.specs.Verdict as verdict
use Rattle.rb_plan.specs.Walked.{TellsRefusal, RefusedBy}
use Rattle.rb_plan.specs.Worlds.{Found, job_found}
use Rattle.rb_plan.specs.declared.accepted.Accepted.{Accepted}
use Rattle.rb_plan.specs.declared.accepted.Command.{Command}
use Rattle.rb_plan.specs.declared.accepted.Dropped.{Dropped}
use Rattle.rb_plan.specs.declared.judging.InlinedJob.{InlinedJob}
use Rattle.rb_plan.specs.declared.refusal.Refusal.{Refusal}
use Rattle.rb_plan.specs.declared.refusal.VerdictErr.{VerdictErr}
use Rattle.rb_plan.specs.declared.refusal.VerdictErr.TheVariants.{Refused, NoMemory}
use Rattle.rb_plan.specs.declared.sorting.SortedNodes.{SortedNodes}
use Rattle.rb_plan.specs.declared.world.HeldJob.{HeldJob}
use Rattle.rb_plan.specs.declared.world.Project.{Project}
use Rattle.rb_plan.specs.declared.world.RunAsk.{RunAsk}
use Rattle.rb_plan.specs.declared.world.World.{World}
use Rattle.rb_plan.proofs.Accepting.{each_none, slots_few}
use Rattle.rb_plan.proofs.Denied.{or_none, or_stops, or_on}
use Rattle.rb_plan.proofs.PartNodes.{part_runnable, part_targets}
use Rattle.rb_plan.proofs.Slots.{commands_many}
use Rattle.rb_plan.proofs.SoundNodes.{sound_nodes}

or_assoc : (x y z : Option Refusal) → option_or (option_or x y) z ≡ option_or x (option_or y z)
or_assoc None y z = refl
or_assoc (Some r) y z = refl

joined : (xs ys : List (Option Refusal)) → first_refusal (xs ++ ys) ≡ option_or (first_refusal xs) (first_refusal ys)
joined [] ys = refl
joined (r ∷ rs) ys = ap (option_or r) (joined rs ys) ∙ sym (or_assoc r (first_refusal rs) (first_refusal ys))

-- the rules by what they look at
abbrev jobs : Asked → Option Refusal
jobs a = first_refusal (job_rules a.world (access_of a) a.found.project a.found.held)

abbrev options : Asked → Option Refusal
options a = refused_option [] a.found.held.job.options a.ask.given

abbrev inner : Asked → Option Refusal
inner a = option_in_steps (site_of a) (steps_of a)

abbrev nodes : Asked → Option Refusal
nodes a = first_refusal (node_rules a.found.held.job (may_run_on a) (chosen_of a))

abbrev leaves : Asked → Option Refusal
leaves a = too_large (length (targets_of a)) (slots (steps_of a))

all_rules : (a : Asked) → first_refusal (verdict.rules a) ≡ option_or (jobs a) (option_or (options a) (option_or (inner a) (option_or (nodes a) (option_or (leaves a) None))))
all_rules a =
    joined (job_rules a.world (access_of a) a.found.project a.found.held)
    (refused_option [] a.found.held.job.options a.ask.given ∷ option_in_steps (site_of a) (steps_of a)
    ∷ (node_rules a.found.held.job (may_run_on a) (chosen_of a) ++ leaves a ∷ []))
    ∙ ap (λ o. option_or (jobs a) (option_or (options a) (option_or (inner a) o)))
    (joined (node_rules a.found.held.job (may_run_on a) (chosen_of a)) (leaves a ∷ []))

refused_so : (a : Asked) (refusal : Refusal) → first_refusal (verdict.rules a) ≡ Some refusal → unless (first_refusal (verdict.rules a)) (accepted_of a) ≡ Err refusal
refused_so a refusal h = ap (λ rule. unless rule (accepted_of a)) h

judges_err : (a : Asked) (o : Option Refusal) (e : VerdictErr) → first_refusal (verdict.rules a) ≡ o → RefusedBy o e → Judges a (Err e)
judges_err a o (Refused refusal) is h = refused_so a refusal (is ∙ h)
judges_err a o NoMemory is h = tt

pub stopped_by_jobs : (a : Asked) (e : VerdictErr) → RefusedBy (jobs a) e → Judges a (Err e)
stopped_by_jobs a e h = judges_err a _ e (all_rules a) (or_stops (jobs a) _ e h)

past_jobs : (a : Asked) → jobs a ≡ None → first_refusal (verdict.rules a) ≡ option_or (options a) (option_or (inner a) (option_or (nodes a) (option_or (leaves a) None)))
past_jobs a j = all_rules a ∙ or_on (jobs a) _ j

pub stopped_by_options : (a : Asked) (e : VerdictErr) → jobs a ≡ None → RefusedBy (options a) e → Judges a (Err e)
stopped_by_options a e j h = judges_err a _ e (past_jobs a j) (or_stops (options a) _ e h)

past_options : (a : Asked) → jobs a ≡ None → options a ≡ None → first_refusal (verdict.rules a) ≡ option_or (inner a) (option_or (nodes a) (option_or (leaves a) None))
past_options a j o = past_jobs a j ∙ or_on (options a) _ o

pub stopped_by_inner : (a : Asked) (e : VerdictErr) → jobs a ≡ None → options a ≡ None → RefusedBy (inner a) e → Judges a (Err e)
stopped_by_inner a e j o h = judges_err a _ e (past_options a j o) (or_stops (inner a) _ e h)

past_inner : (a : Asked) → jobs a ≡ None → options a ≡ None → inner a ≡ None → first_refusal (verdict.rules a) ≡ option_or (nodes a) (option_or (leaves a) None)
past_inner a j o i = past_options a j o ∙ or_on (inner a) _ i

pub stopped_by_nodes : (a : Asked) (e : VerdictErr) → jobs a ≡ None → options a ≡ None → inner a ≡ None → RefusedBy (nodes a) e → Judges a (Err e)
stopped_by_nodes a e j o i h = judges_err a _ e (past_inner a j o i) (or_stops (nodes a) _ e h)

past_nodes : (a : Asked) → jobs a ≡ None → options a ≡ None → inner a ≡ None → nodes a ≡ None → first_refusal (verdict.rules a) ≡ leaves a
past_nodes a j o i n = past_inner a j o i ∙ or_on (nodes a) _ n ∙ or_none (leaves a)

-- what the rule on leaves answers is the verdict
pub judged_by_leaves : (a : Asked) (result : Result Accepted VerdictErr) → jobs a ≡ None → options a ≡ None → inner a ≡ None → nodes a ≡ None
    → TellsRefusal (leaves a) result → IfOk result (λ accepted. acceptance accepted ≡ accepted_of a) → Judges a result
judged_by_leaves a (Ok accepted) j o i n none is = ap (λ rule. unless rule (accepted_of a)) (past_nodes a j o i n ∙ none) ∙ ap Ok (sym is)
judged_by_leaves a (Err (Refused refusal)) j o i n some is = refused_so a refusal (past_nodes a j o i n ∙ some)
judged_by_leaves a (Err NoMemory) j o i n h is = tt

-- after the rules on jobs there are at most 1,000 commands
pub few_commands : (world : World) (access : Access) (project : Project) (held : HeldJob) → first_refusal (job_rules world access project held) ≡ None → slots (resolved_job project held) ≤ 1000
few_commands world access project held none = slots_few (resolved_job project held) (each_none (job_rules world access project held) none 1 None (lit< tt))

-- no more nodes are run on than there are
pub targets_few : (job : Job) (draw : ℕ) (ns : List Node) → length ns ≤ 10000 → length (targets job draw ns) ≤ 10000
targets_few job draw ns h = let part = part_targets job draw ns in omega (arith, part.few, h)

-- the parts of an accepted run make the whole
abbrev put : Asked → List Prop → List Node → List Branch → List Command → ℕ → List Dropped → Acceptance
put a vs ns bs cs n ds = record {
  project = a.found.project.name;
  job = a.found.held.id;
  plan = job_outline a.found.held.job ns bs n;
  nodes = ns;
  commands = cs;
  values = vs;
  dropped = ds;
}

pub parts_are : (a : Asked) (site : Site) (values : List Prop) (inlined : InlinedJob) (sorted : SortedNodes) → site ≡ asked_site a.found.project a.caller a.found.held a.ask.given
    → values ≡ site.values → IsInlined a.found.project a.found.held site inlined → AreSorted (may_run_on a) (chosen_of a) sorted
    → assembled a.found.project a.found.held a.draw values inlined sorted ≡ accepted_of a
parts_are a site values inlined sorted here kept made nodes =
    ap (λ vs. put a vs (targets a.found.held.job a.draw sorted.runnable.items) (map step_tree inlined.steps.items) inlined.commands.items (length inlined.commands.items) sorted.dropped)
    (kept ∙ ap (λ s. s.values) here)
    ∙ ap (λ rs. put a (site_of a).values (targets a.found.held.job a.draw rs) (map step_tree inlined.steps.items) inlined.commands.items (length inlined.commands.items) sorted.dropped) nodes.runnable
    ∙ ap (λ ds. put a (site_of a).values (targets_of a) (map step_tree inlined.steps.items) inlined.commands.items (length inlined.commands.items) ds) nodes.dropped
    ∙ ap (λ bs. put a (site_of a).values (targets_of a) bs inlined.commands.items (length inlined.commands.items) (dropped (may_run_on a) (chosen_of a))) made.steps
    ∙ ap (λ cs. put a (site_of a).values (targets_of a) (numbered 0 (steps_of a)) cs (length cs) (dropped (may_run_on a) (chosen_of a))) all
    ∙ ap (λ n. put a (site_of a).values (targets_of a) (numbered 0 (steps_of a)) (commands (site_of a) (steps_of a)) n (dropped (may_run_on a) (chosen_of a))) (commands_many (site_of a) (steps_of a))
  where
    all : inlined.commands.items ≡ commands (site_of a) (steps_of a)
    all = made.commands ∙ ap (λ s. commands s (steps_of a)) here

-- the rule on leaves in the numbers that the parts have
pub leaves_are : (a : Asked) (site : Site) (inlined : InlinedJob) (sorted : SortedNodes) → IsInlined a.found.project a.found.held site inlined → AreSorted (may_run_on a) (chosen_of a) sorted
    → too_large (length (targets a.found.held.job a.draw sorted.runnable.items)) (length inlined.commands.items) ≡ leaves a
leaves_are a site inlined sorted made nodes =
    ap (λ rs. too_large (length (targets a.found.held.job a.draw rs)) (length inlined.commands.items)) nodes.runnable
    ∙ ap (λ n. too_large (length (targets_of a)) n) (ap length made.commands ∙ commands_many site (steps_of a))

-- the parts of a run are few enough
pub commands_counted : (project : Project) (held : HeldJob) (site : Site) (inlined : InlinedJob) → IsInlined project held site inlined → slots (resolved_job project held) ≤ 1000 → length inlined.commands.items ≤ 1000
commands_counted project held site inlined made few = subst (λ n. n ≤ 1000) (sym (ap length made.commands ∙ commands_many site (resolved_job project held))) few

-- who asks, in a project of this name
abbrev pub access_in : World → Caller → List ℕ → Access
access_in world caller name = record { policies = world.policies; caller = caller; here = Context.Project name }

jobs_in : (a : Asked) (name : List ℕ) → name ≡ a.found.project.name → first_refusal (job_rules a.world (access_in a.world a.caller name) a.found.project a.found.held) ≡ jobs a
jobs_in a name same = ap (λ n. first_refusal (job_rules a.world (access_in a.world a.caller n) a.found.project a.found.held)) same

pub stopped_in : (a : Asked) (name : List ℕ) (e : VerdictErr) → name ≡ a.found.project.name
    → RefusedBy (first_refusal (job_rules a.world (access_in a.world a.caller name) a.found.project a.found.held)) e → Judges a (Err e)
stopped_in a name e same h = stopped_by_jobs a e (subst (λ o. RefusedBy o e) (jobs_in a name same) h)

pub jobs_pass : (a : Asked) (name : List ℕ) → name ≡ a.found.project.name
    → first_refusal (job_rules a.world (access_in a.world a.caller name) a.found.project a.found.held) ≡ None → jobs a ≡ None
jobs_pass a name same h = sym (jobs_in a name same) ∙ h

pub site_in : (a : Asked) (site : Site) (given : List Prop) → given ≡ a.ask.given → site ≡ asked_site a.found.project a.caller a.found.held given
    → site ≡ asked_site a.found.project a.caller a.found.held a.ask.given
site_in a site given same h = h ∙ ap (asked_site a.found.project a.caller a.found.held) same

pub options_pass : (a : Asked) (given : List Prop) → given ≡ a.ask.given → refused_option [] a.found.held.job.options given ≡ None → options a ≡ None
options_pass a given same h = sym (ap (refused_option [] a.found.held.job.options) same) ∙ h

pub stopped_at_options : (a : Asked) (given : List Prop) (e : VerdictErr) → given ≡ a.ask.given → jobs a ≡ None → RefusedBy (refused_option [] a.found.held.job.options given) e → Judges a (Err e)
stopped_at_options a given e same j h = stopped_by_options a e j (subst (λ g. RefusedBy (refused_option [] a.found.held.job.options g) e) same h)

pub sorted_in : (a : Asked) (name : List ℕ) (all : List Node) (sorted : SortedNodes) → name ≡ a.found.project.name → all ≡ a.found.project.inventory.nodes
    → AreSorted (node_run (access_in a.world a.caller name)) (chosen_nodes a.ask a.found.held.job all) sorted → AreSorted (may_run_on a) (chosen_of a) sorted
sorted_in a name all sorted same whole h =
    subst (λ ns. AreSorted (may_run_on a) (chosen_nodes a.ask a.found.held.job ns) sorted) whole
    (subst (λ n. AreSorted (node_run (access_in a.world a.caller n)) (chosen_nodes a.ask a.found.held.job all) sorted) same h)

pub runnable_few : (a : Asked) (sorted : SortedNodes) → is_sound_project a.found.project ≡ true → AreSorted (may_run_on a) (chosen_of a) sorted → length sorted.runnable.items ≤ 10000
runnable_few a sorted project picked =
    let part = part_runnable (may_run_on a) a.ask a.found.held.job a.found.project.inventory.nodes in
    let sound = sound_nodes a.found.project project in
    subst (λ ns. length ns ≤ 10000) (sym picked.runnable) (omega (arith, part.few, sound.few))

pub inner_pass : (a : Asked) (site : Site) → site ≡ asked_site a.found.project a.caller a.found.held a.ask.given → option_in_steps site (steps_of a) ≡ None → inner a ≡ None
inner_pass a site here h = subst (λ s. option_in_steps s (steps_of a) ≡ None) here h

-- what an assembled run answers is the verdict
pub judged_by_parts : (a : Asked) (site : Site) (values : List Prop) (inlined : InlinedJob) (sorted : SortedNodes) (result : Result Accepted VerdictErr)
    → jobs a ≡ None → options a ≡ None → option_in_steps site (steps_of a) ≡ None → nodes a ≡ None
    → site ≡ asked_site a.found.project a.caller a.found.held a.ask.given → values ≡ site.values
    → IsInlined a.found.project a.found.held site inlined → AreSorted (may_run_on a) (chosen_of a) sorted
    → TellsRefusal (too_large (length (targets a.found.held.job a.draw sorted.runnable.items)) (length inlined.commands.items)) result
    → IfOk result (λ accepted. acceptance accepted ≡ assembled a.found.project a.found.held a.draw values inlined sorted) → Judges a result
judged_by_parts a site values inlined sorted result j o i n here kept made picked refused is =
    judged_by_leaves a result j o (subst (λ s. option_in_steps s (steps_of a) ≡ None) here i) n
    (subst (λ r. TellsRefusal r result) (leaves_are a site inlined sorted made picked) refused)
    (if_ok result is (λ accepted same. same ∙ parts_are a site values inlined sorted here kept made picked))
  where
    if_ok : (result : Result Accepted VerdictErr) → IfOk result (λ accepted. acceptance accepted ≡ assembled a.found.project a.found.held a.draw values inlined sorted)
        → ((accepted : Accepted) → acceptance accepted ≡ assembled a.found.project a.found.held a.draw values inlined sorted → acceptance accepted ≡ accepted_of a)
        → IfOk result (λ accepted. acceptance accepted ≡ accepted_of a)
    if_ok (Ok accepted) h f = f accepted h
    if_ok (Err e) h f = h

pub stopped_at_site : (a : Asked) (site : Site) (e : VerdictErr) → jobs a ≡ None → options a ≡ None → site ≡ asked_site a.found.project a.caller a.found.held a.ask.given
    → RefusedBy (option_in_steps site (steps_of a)) e → Judges a (Err e)
stopped_at_site a site e j o here h = stopped_by_inner a e j o (subst (λ s. RefusedBy (option_in_steps s (steps_of a)) e) here h)

-- the verdict on a job that is held is the verdict
pub verdict_told : (world : World) (caller : Caller) (ask : RunAsk) (draw : ℕ) (found : Found) (result : Result Accepted VerdictErr) → job_found world ask.job ≡ Some found
    → Judges (record { world = world; caller = caller; ask = ask; draw = draw; found = found }) result → Verdicts world caller ask draw result
verdict_told world caller ask draw found (Ok accepted) is h = ap (verdict_on world caller ask draw) is ∙ h
verdict_told world caller ask draw found (Err (Refused refusal)) is h = ap (verdict_on world caller ask draw) is ∙ h
verdict_told world caller ask draw found (Err NoMemory) is h = tt
