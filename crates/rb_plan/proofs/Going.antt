-- How the steps of a job are put in sequence, one after the other.
use Rattle.std.proofs.Common.{arith, ◌≡◌, ℕ, ◌+◌, ◌≤◌, ◌<◌, ◌-◌, zero, suc, Bool, length, get_or, List, [], ◌∷◌, ◌++◌, append_assoc, drop, Option, Some, None, refl, sym, ap, ◌∙◌, subst}
use Rattle.std.proofs.lemmas.List.{length-append}
use Rattle.rb_causes.specs.declared.items.Prop.{Prop}
use Rattle.rb_job.specs.declared.job.JobStep.{JobStep}
use Rattle.rb_job.specs.declared.job.JobAct.{JobAct}
use Rattle.rb_marks.specs.View.{Branch, branches_of}
use Rattle.rb_marks.specs.Tree.{Tree, sub}
use Rattle.rb_plan.specs.Inlined.{Site, site_below, given_at, refused_option, option_in_act, option_in_steps, act_commands, handler_commands, commands, act_slots, handler_slots, slots, numbered, numbered_act, numbered_handler, numbered_step}
use Rattle.rb_plan.specs.Resolved.{Path, Resolver, ResolvedAct, referred, ResolvedSteps, step, resolved, resolved_job, resolved_act, resolved_steps, resolved_reference}
use Rattle.rb_plan.specs.Walked.{RefusedBy, deeper}
use Rattle.rb_plan.specs.declared.accepted.Command.{Command}
use Rattle.rb_plan.specs.declared.world.HeldJob.{HeldJob}
use Rattle.rb_plan.specs.declared.world.Project.{Project}
use Rattle.rb_plan.specs.declared.refusal.VerdictErr.{VerdictErr}
use Rattle.rb_plan.proofs.Walks.{drop_step}
use Rattle.rb_plan.proofs.Denied.{or_on}
use Rattle.rb_plan.proofs.Slots.{act_commands_many, handler_commands_many}

-- of all steps behind some commands these are left, where so many commands and branches were made
pub record Going (site : Site) (before : List Command) (all left : ResolvedSteps) (now : List Command) (done : List Branch) : Type 0 where
  pub few : length now + slots left ≤ 1000
  pub refused : option_in_steps site left ≡ option_in_steps site all
  pub put : now ++ commands site left ≡ before ++ commands site all
  pub steps : done ++ numbered (length now) left ≡ numbered (length before) all

added_many : (site : Site) (act : ResolvedAct) (handler : Option JobAct) → length (act_commands site act ++ handler_commands site handler) ≡ act_slots act + handler_slots handler
added_many site act handler =
    length-append (act_commands site act) (handler_commands site handler)
    ∙ ap (λ n. n + length (handler_commands site handler)) (act_commands_many site act)
    ∙ ap (λ n. act_slots act + n) (handler_commands_many site handler)

now_many : (site : Site) (act : ResolvedAct) (handler : Option JobAct) (now new : List Command) → new ≡ now ++ (act_commands site act ++ handler_commands site handler)
    → length new ≡ length now + (act_slots act + handler_slots handler)
now_many site act handler now new h =
    ap length h ∙ length-append now (act_commands site act ++ handler_commands site handler) ∙ ap (λ n. length now + n) (added_many site act handler)

pub going_on : (site : Site) (before : List Command) (all : ResolvedSteps) (act : ResolvedAct) (handler : Option JobAct) (keep : Bool) (rest : ResolvedSteps) (now new : List Command) (done : List Branch) (b : Branch)
    → Going site before all (step act handler keep rest) now done → option_in_act site act ≡ None → new ≡ now ++ (act_commands site act ++ handler_commands site handler)
    → b ≡ numbered_step (length now) act handler keep → Going site before all rest new (done ++ b ∷ [])
going_on site before all act handler keep rest now new done b going none put is = record {
  few = few_on (length now) (length new) (act_slots act) (handler_slots handler) (slots rest) going.few (now_many site act handler now new put);
  refused = sym (or_on (option_in_act site act) (option_in_steps site rest) none) ∙ going.refused;
  put = ap (λ cs. cs ++ commands site rest) put
      ∙ append_assoc now (act_commands site act ++ handler_commands site handler) (commands site rest)
      ∙ ap (λ cs. now ++ cs) (append_assoc (act_commands site act) (handler_commands site handler) (commands site rest))
      ∙ going.put;
  steps = append_assoc done (b ∷ []) (numbered (length new) rest)
      ∙ ap (λ x. done ++ x ∷ numbered (length new) rest) is
      ∙ ap (λ n. done ++ numbered_step (length now) act handler keep ∷ numbered n rest) (now_many site act handler now new put)
      ∙ going.steps;
}
  where
    few_on : (n m a h r : ℕ) → n + (a + (h + r)) ≤ 1000 → m ≡ n + (a + h) → m + r ≤ 1000
    few_on n m a h r few is = omega (arith, few, is)

-- the steps that are left begin with the next one
pub tree_at : (below : Option Resolver) (project : Project) (path : Path) (ss : List JobStep) (i : ℕ) (s : JobStep) → i < length ss → s ≡ get_or ss i s
    → resolved_steps below project path (drop i ss)
    ≡ step (resolved_act below project path s.act) s.handler s.keep_on_success (resolved_steps below project path (drop (i + 1) ss))
tree_at below project path ss i s h is = ap (resolved_steps below project path) (drop_step ss i s h is)

-- a handler stands behind its act
pub behind_act : (site : Site) (act : ResolvedAct) (before now : List Command) → now ≡ before ++ act_commands site act → length now ≡ length before + act_slots act
behind_act site act before now h = ap length h ∙ length-append before (act_commands site act) ∙ ap (λ n. length before + n) (act_commands_many site act)

-- the steps of a job are resolved with one level less
pub steps_below : (levels : ℕ) (project : Project) (path : Path) (steps : List JobStep) → resolved levels project path steps ≡ resolved_steps (deeper levels project) project path steps
steps_below zero project path steps = refl
steps_below (suc levels) project path steps = refl

abbrev pub referred_to : ℕ → Project → Path → List Prop → HeldJob → ResolvedAct
referred_to levels project path args held = referred path args held (resolved_steps (deeper (levels - 1) project) project path held.job.steps)

-- where a job is found and levels are left, a reference is its steps
pub reference_is : (levels : ℕ) (project : Project) (path : Path) (args : List Prop) (held : HeldJob) → (levels ≡ 0 → ⊥)
    → resolved_reference (deeper levels project) path args (Some held) ≡ referred_to levels project path args held
reference_is zero project path args held some = absurd (some refl)
reference_is (suc levels) project path args held some =
    ap (λ steps. referred path args held steps) (steps_below levels project path held.job.steps
    ∙ ap (λ k. resolved_steps (deeper k project) project path held.job.steps) (less levels))
  where
    less : (levels : ℕ) → levels ≡ suc levels - 1
    less levels = omega arith

reference_of : (levels : ℕ) (project : Project) (path : Path) (args : List Prop) (held : HeldJob) (o : Option HeldJob) (steps : List JobStep) → (levels ≡ 0 → ⊥) → o ≡ Some held → steps ≡ held.job.steps
    → resolved_reference (deeper levels project) path args o ≡ referred path args held (resolved_steps (deeper (levels - 1) project) project path steps)
reference_of levels project path args held o steps some found all =
    ap (resolved_reference (deeper levels project) path args) found ∙ reference_is levels project path args held some
    ∙ ap (λ ss. referred path args held (resolved_steps (deeper (levels - 1) project) project path ss)) (sym all)

-- below a reference there is as much room
pub below_few : (levels : ℕ) (project : Project) (path : Path) (args : List Prop) (held : HeldJob) (o : Option HeldJob) (steps : List JobStep) (n : ℕ) → (levels ≡ 0 → ⊥) → o ≡ Some held → steps ≡ held.job.steps
    → n + act_slots (resolved_reference (deeper levels project) path args o) ≤ 1000 → n + slots (resolved_steps (deeper (levels - 1) project) project path steps) ≤ 1000
below_few levels project path args held o steps n some found all h =
    subst (λ act. n + act_slots act ≤ 1000) (reference_of levels project path args held o steps some found all) h

-- where the values of a reference are settled, its steps answer
below_is : (levels : ℕ) (project : Project) (path : Path) (args : List Prop) (held : HeldJob) (o : Option HeldJob) (steps : List JobStep) (site below : Site) → (levels ≡ 0 → ⊥) → o ≡ Some held → steps ≡ held.job.steps
    → refused_option path held.job.options (given_at site args) ≡ None → below ≡ site_below site args held
    → option_in_act site (resolved_reference (deeper levels project) path args o) ≡ option_in_steps below (resolved_steps (deeper (levels - 1) project) project path steps)
below_is levels project path args held o steps site below some found all none is =
    ap (option_in_act site) (reference_of levels project path args held o steps some found all)
    ∙ or_on (refused_option path held.job.options (given_at site args)) (option_in_steps (site_below site args held) (resolved_steps (deeper (levels - 1) project) project path steps)) none
    ∙ ap (λ s. option_in_steps s (resolved_steps (deeper (levels - 1) project) project path steps)) (sym is)

pub below_refused : (levels : ℕ) (project : Project) (path : Path) (args : List Prop) (held : HeldJob) (o : Option HeldJob) (steps : List JobStep) (site below : Site) (e : VerdictErr) → (levels ≡ 0 → ⊥) → o ≡ Some held → steps ≡ held.job.steps
    → refused_option path held.job.options (given_at site args) ≡ None → below ≡ site_below site args held
    → RefusedBy (option_in_steps below (resolved_steps (deeper (levels - 1) project) project path steps)) e → RefusedBy (option_in_act site (resolved_reference (deeper levels project) path args o)) e
below_refused levels project path args held o steps site below e some found all none is h =
    subst (λ r. RefusedBy r e) (sym (below_is levels project path args held o steps site below some found all none is)) h

pub below_none : (levels : ℕ) (project : Project) (path : Path) (args : List Prop) (held : HeldJob) (o : Option HeldJob) (steps : List JobStep) (site below : Site) → (levels ≡ 0 → ⊥) → o ≡ Some held → steps ≡ held.job.steps
    → refused_option path held.job.options (given_at site args) ≡ None → below ≡ site_below site args held
    → option_in_steps below (resolved_steps (deeper (levels - 1) project) project path steps) ≡ None → option_in_act site (resolved_reference (deeper levels project) path args o) ≡ None
below_none levels project path args held o steps site below some found all none is h =
    below_is levels project path args held o steps site below some found all none is ∙ h

-- its steps are a sequence of their own
pub below_tree : (levels : ℕ) (project : Project) (path : Path) (args : List Prop) (held : HeldJob) (o : Option HeldJob) (steps : List JobStep) (n : ℕ) (done : List Branch) → (levels ≡ 0 → ⊥) → o ≡ Some held → steps ≡ held.job.steps
    → done ≡ numbered n (resolved_steps (deeper (levels - 1) project) project path steps)
    → sub held.job.keepgoing (branches_of done) ≡ numbered_act n (resolved_reference (deeper levels project) path args o)
below_tree levels project path args held o steps n done some found all h =
    ap (λ bs. sub held.job.keepgoing (branches_of bs)) h ∙ ap (numbered_act n) (sym (reference_of levels project path args held o steps some found all))

pub below_put : (levels : ℕ) (project : Project) (path : Path) (args : List Prop) (held : HeldJob) (o : Option HeldJob) (steps : List JobStep) (site below : Site) (before now : List Command) → (levels ≡ 0 → ⊥) → o ≡ Some held → steps ≡ held.job.steps
    → below ≡ site_below site args held → now ≡ before ++ commands below (resolved_steps (deeper (levels - 1) project) project path steps)
    → now ≡ before ++ act_commands site (resolved_reference (deeper levels project) path args o)
below_put levels project path args held o steps site below before now some found all is h =
    h ∙ ap (λ s. before ++ commands s (resolved_steps (deeper (levels - 1) project) project path steps)) is
    ∙ ap (λ act. before ++ act_commands site act) (sym (reference_of levels project path args held o steps some found all))

pub handler_room : (site : Site) (act : ResolvedAct) (handler : Option JobAct) (before now : List Command) → now ≡ before ++ act_commands site act
    → length before + (act_slots act + handler_slots handler) ≤ 1000 → length now + handler_slots handler ≤ 1000
handler_room site act handler before now put h = room (length before) (act_slots act) (handler_slots handler) (length now) h (behind_act site act before now put)
  where
    room : (n a h m : ℕ) → n + (a + h) ≤ 1000 → m ≡ n + a → m + h ≤ 1000
    room n a h m few is = omega (arith, few, is)

pub step_is : (site : Site) (act : ResolvedAct) (handler : Option JobAct) (keep : Bool) (before now : List Command) (tree : Tree) (slot : Option ℕ) → now ≡ before ++ act_commands site act
    → tree ≡ numbered_act (length before) act → slot ≡ numbered_handler (length now) handler → (tree, slot, keep) ≡ numbered_step (length before) act handler keep
step_is site act handler keep before now tree slot put is h =
    ap (λ a. (a, slot, keep)) is ∙ ap (λ s. (numbered_act (length before) act, s, keep)) (h ∙ ap (λ n. numbered_handler n handler) (behind_act site act before now put))

-- the steps of an asked job
pub asked_steps : (project : Project) (held : HeldJob) (path : Path) (steps : List JobStep) → path ≡ [] → steps ≡ held.job.steps
    → resolved_steps (deeper 8 project) project path steps ≡ resolved_job project held
asked_steps project held path steps here all =
    ap (λ p. resolved_steps (deeper 8 project) project p steps) here ∙ ap (resolved_steps (deeper 8 project) project []) all ∙ sym (steps_below 8 project [] held.job.steps)

pub asked_few : (project : Project) (held : HeldJob) (path : Path) (steps : List JobStep) (before : List Command) → before ≡ [] → path ≡ [] → steps ≡ held.job.steps → slots (resolved_job project held) ≤ 1000
    → length before + slots (resolved_steps (deeper 8 project) project path steps) ≤ 1000
asked_few project held path steps before none here all few =
    let nothing : length before ≡ 0 = ap length none in
    let same : slots (resolved_steps (deeper 8 project) project path steps) ≡ slots (resolved_job project held) = ap slots (asked_steps project held path steps here all) in
    omega (arith, few, nothing, same)

pub asked_numbered : (project : Project) (held : HeldJob) (path : Path) (steps : List JobStep) (before : List Command) (done : List Branch) → before ≡ [] → path ≡ [] → steps ≡ held.job.steps
    → done ≡ numbered (length before) (resolved_steps (deeper 8 project) project path steps) → done ≡ numbered 0 (resolved_job project held)
asked_numbered project held path steps before done none here all h =
    h ∙ ap (λ cs. numbered (length cs) (resolved_steps (deeper 8 project) project path steps)) none ∙ ap (numbered 0) (asked_steps project held path steps here all)

pub asked_commands : (project : Project) (held : HeldJob) (path : Path) (steps : List JobStep) (site : Site) (before now : List Command) → before ≡ [] → path ≡ [] → steps ≡ held.job.steps
    → now ≡ before ++ commands site (resolved_steps (deeper 8 project) project path steps) → now ≡ commands site (resolved_job project held)
asked_commands project held path steps site before now none here all h =
    h ∙ ap (λ cs. cs ++ commands site (resolved_steps (deeper 8 project) project path steps)) none ∙ ap (commands site) (asked_steps project held path steps here all)

pub asked_refused : (project : Project) (held : HeldJob) (path : Path) (steps : List JobStep) (site : Site) (e : VerdictErr) → path ≡ [] → steps ≡ held.job.steps
    → RefusedBy (option_in_steps site (resolved_steps (deeper 8 project) project path steps)) e → RefusedBy (option_in_steps site (resolved_job project held)) e
asked_refused project held path steps site e here all h = subst (λ tree. RefusedBy (option_in_steps site tree) e) (asked_steps project held path steps here all) h

pub asked_none : (project : Project) (held : HeldJob) (path : Path) (steps : List JobStep) (site : Site) → path ≡ [] → steps ≡ held.job.steps
    → option_in_steps site (resolved_steps (deeper 8 project) project path steps) ≡ None → option_in_steps site (resolved_job project held) ≡ None
asked_none project held path steps site here all h = sym (ap (option_in_steps site) (asked_steps project held path steps here all)) ∙ h
