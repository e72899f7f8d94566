-- Where each of the things comes from that the walk comes to.
use Rattle.std.proofs.Common.{arith, ◌≡◌, ◌⊎◌, inl, inr, ℕ, ◌<◌, zero, suc, length, List, [], ◌∷◌, ◌++◌, append_assoc, append-nil, Option, Some, None, refl, sym, ◌∙◌, subst}
use Rattle.std.specs.List.{Contains}
use Rattle.rb_causes.specs.declared.items.Prop.{Prop}
use Rattle.rb_job.specs.declared.job.JobStep.{JobStep}
use Rattle.rb_job.specs.declared.job.JobAct.{JobAct}
use Rattle.rb_job.specs.declared.job.JobAct.TheVariants.{Exec, Script, Refer}
use Rattle.rb_plan.specs.Holds.{Leads, RefersTo}
use Rattle.rb_plan.specs.Inlined.{Site, site_below}
use Rattle.rb_plan.specs.References.{Visit, command, reference, fault, act_visits, handler_visits}
use Rattle.rb_plan.specs.Resolved.{Path, Resolver, label, resolved, resolved_act, resolved_reference}
use Rattle.rb_plan.specs.Walked.{deeper, all_visits}
use Rattle.rb_plan.specs.Worlds.{referred_job}
use Rattle.rb_plan.specs.declared.world.Project.{Project}
use Rattle.rb_plan.specs.declared.world.HeldJob.{HeldJob}
use Rattle.rb_plan.specs.declared.refusal.RefCause.{RefCause}
use Rattle.rb_plan.specs.declared.refusal.RefCause.TheVariants.{NotFound, TooDeep, TooMany}
use Rattle.rb_plan.proofs.Served.{Member, contains_of}
use Rattle.rb_plan.proofs.Walks.{resolved_is}

-- why a reference is at fault
abbrev pub IsCause : ℕ → Path → Option HeldJob → RefCause → Type 0
IsCause levels titles found NotFound = found ≡ None
IsCause levels titles found TooDeep = (next : HeldJob) × (found ≡ Some next) × (length titles ≡ levels)
IsCause levels titles found TooMany = ⊥

-- where a visit comes from, in a walk from a site with this path and so many levels below it
abbrev pub ComesFrom : ℕ → Project → Site → Path → Visit → Type 0
ComesFrom levels project site path (command q) = (titles : Path) × (end : Site) × (q ≡ path ++ titles) × Leads project site titles end
ComesFrom levels project site path (reference q held) =
    (titles : Path) × (end : Site) × (q ≡ path ++ titles) × Leads project site titles end × (end.held ≡ held) × (0 < length titles)
ComesFrom levels project site path (fault q cause) =
    (titles : Path) × (end : Site) × (group : List ℕ) × (name : List ℕ) × (args : List Prop)
    × (q ≡ path ++ (titles ++ label group name ∷ [])) × Leads project site titles end × RefersTo end.held group name args
    × IsCause levels titles (referred_job project group name) cause

pub split : {A : Type 0} (xs ys : List A) (x : A) → Member x (xs ++ ys) → Member x xs ⊎ Member x ys
split [] ys x h = inr h
split (y ∷ xs) ys x (inl e) = inl (inl e)
split (y ∷ xs) ys x (inr h) = elim (split xs ys x h) [ inl l ↦ inl (inr l) | inr r ↦ inr r ]

of_handler : (path : Path) (handler : Option JobAct) (v : Visit) → Member v (handler_visits path handler) → v ≡ command path
of_handler path None v h = absurd h
of_handler path (Some act) v (inl e) = e
of_handler path (Some act) v (inr h) = absurd h

-- a visit is of a step's act, or of a handler
of_steps : (below : Option Resolver) (project : Project) (path : Path) (ss : List JobStep) (v : Visit) → Member v (all_visits below project path ss)
    → ((s : JobStep) × Member s ss × Member v (act_visits path (resolved_act below project path s.act))) ⊎ (v ≡ command path)
of_steps below project path [] v h = absurd h
of_steps below project path (s ∷ ss) v h =
    elim (split (act_visits path (resolved_act below project path s.act)) _ v h) [
      | inl m ↦ inl (s, inl refl, m)
      | inr m ↦ elim (split (handler_visits path s.handler) _ v m) [
        | inl k ↦ inr (of_handler path s.handler v k)
        | inr k ↦ elim (of_steps below project path ss v k) [ inl r ↦ inl (r.0, inr r.1, r.2) | inr e ↦ inr e ]
      ]
    ]

-- a visit of the walk below a reference comes from the site of the reference too
further : (levels : ℕ) (project : Project) (site : Site) (path : Path) (group name : List ℕ) (args : List Prop) (next : HeldJob) (v : Visit)
    → RefersTo site.held group name args → referred_job project group name ≡ Some next
    → ComesFrom levels project (site_below site args next) (path ++ label group name ∷ []) v → ComesFrom (suc levels) project site path v
further levels project site path group name args next (command q) refers found (titles, end, is, leads) =
    (label group name ∷ titles, end, is ∙ append_assoc path (label group name ∷ []) titles, (group, name, args, next, refers, refl, found, leads))
further levels project site path group name args next (reference q held) refers found (titles, end, is, leads, same, some) =
    (label group name ∷ titles, end, is ∙ append_assoc path (label group name ∷ []) titles, (group, name, args, next, refers, refl, found, leads), same, omega arith)
further levels project site path group name args next (fault q NotFound) refers found (titles, end, g, n, given, is, leads, to, why) =
    (label group name ∷ titles, end, g, n, given, is ∙ append_assoc path (label group name ∷ []) (titles ++ label g n ∷ []), (group, name, args, next, refers, refl, found, leads), to, why)
further levels project site path group name args next (fault q TooDeep) refers found (titles, end, g, n, given, is, leads, to, why) = (
  label group name ∷ titles,
  end,
  g,
  n,
  given,
  is ∙ append_assoc path (label group name ∷ []) (titles ++ label g n ∷ []),
  (group, name, args, next, refers, refl, found, leads),
  to,
  (why.0, why.1, omega (arith, why.2)),
)
further levels project site path group name args next (fault q TooMany) refers found (titles, end, g, n, given, is, leads, to, why) = absurd why

-- a visit of an act is of a command, or of a reference
of_act : (levels : ℕ) (project : Project) (site : Site) (path : Path) (v : Visit) (s : JobStep) (act : JobAct) → Contains site.held.job.steps s → s.act ≡ act
    → ((group name : List ℕ) (args : List Prop) → RefersTo site.held group name args
    → Member v (act_visits path (resolved_reference (deeper levels project) (path ++ label group name ∷ []) args (referred_job project group name))) → ComesFrom levels project site path v)
    → Member v (act_visits path (resolved_act (deeper levels project) project path act)) → ComesFrom levels project site path v
of_act levels project site path v s (Exec words) has is at (inl e) = subst (ComesFrom levels project site path) (sym e) ([], site, sym (append-nil path), refl)
of_act levels project site path v s (Exec words) has is at (inr k) = absurd k
of_act levels project site path v s (Script text args) has is at (inl e) = subst (ComesFrom levels project site path) (sym e) ([], site, sym (append-nil path), refl)
of_act levels project site path v s (Script text args) has is at (inr k) = absurd k
of_act levels project site path v s (Refer group name args) has is at k = at group name args (s, has, is) k

-- what is common to all levels: a visit is of a step's act, or of a handler
from_step : (levels : ℕ) (project : Project) (site : Site) (path : Path) (v : Visit)
    → ((group name : List ℕ) (args : List Prop) → RefersTo site.held group name args
    → Member v (act_visits path (resolved_reference (deeper levels project) (path ++ label group name ∷ []) args (referred_job project group name))) → ComesFrom levels project site path v)
    → Member v (all_visits (deeper levels project) project path site.held.job.steps) → ComesFrom levels project site path v
from_step levels project site path v at m =
    elim (of_steps (deeper levels project) project path site.held.job.steps v m) [
      | inr e ↦ subst (ComesFrom levels project site path) (sym e) ([], site, sym (append-nil path), refl)
      | inl r ↦ of_act levels project site path v r.0 r.0.act (contains_of site.held.job.steps r.0 r.1) refl at r.2
    ]

-- a reference at the last level, and one above it
at_last : (project : Project) (site : Site) (path : Path) (v : Visit) (group name : List ℕ) (args : List Prop) (o : Option HeldJob)
    → RefersTo site.held group name args → referred_job project group name ≡ o
    → Member v (act_visits path (resolved_reference None (path ++ label group name ∷ []) args o)) → ComesFrom zero project site path v
at_last project site path v group name args None refers found (inl e) =
    subst (ComesFrom zero project site path) (sym e) ([], site, group, name, args, refl, refl, refers, found)
at_last project site path v group name args None refers found (inr k) = absurd k
at_last project site path v group name args (Some next) refers found (inl e) =
    subst (ComesFrom zero project site path) (sym e) ([], site, group, name, args, refl, refl, refers, (next, found, refl))
at_last project site path v group name args (Some next) refers found (inr k) = absurd k

at_level : (levels : ℕ) (project : Project) (site : Site) (path : Path) (v : Visit) (group name : List ℕ) (args : List Prop) (o : Option HeldJob)
    → ((site : Site) (path : Path) → Member v (all_visits (deeper levels project) project path site.held.job.steps) → ComesFrom levels project site path v)
    → RefersTo site.held group name args → referred_job project group name ≡ o
    → Member v (act_visits path (resolved_reference (Some (resolved levels project)) (path ++ label group name ∷ []) args o)) → ComesFrom (suc levels) project site path v
at_level levels project site path v group name args None below refers found (inl e) =
    subst (ComesFrom (suc levels) project site path) (sym e) ([], site, group, name, args, refl, refl, refers, found)
at_level levels project site path v group name args None below refers found (inr k) = absurd k
at_level levels project site path v group name args (Some next) below refers found (inl e) =
    subst (ComesFrom (suc levels) project site path) (sym e)
    (label group name ∷ [], site_below site args next, refl, (group, name, args, next, refers, refl, found, refl), refl, omega arith)
at_level levels project site path v group name args (Some next) below refers found (inr k) =
    further levels project site path group name args next v refers found
    (below (site_below site args next) (path ++ label group name ∷ []) (subst (λ vs. Member v vs) (resolved_is levels project (path ++ label group name ∷ []) next.job.steps) k))

-- where what the walk comes to comes from
pub comes : (levels : ℕ) (project : Project) (v : Visit) (site : Site) (path : Path) → Member v (all_visits (deeper levels project) project path site.held.job.steps) → ComesFrom levels project site path v
comes zero project v site path m =
    from_step zero project site path v (λ group name args refers k. at_last project site path v group name args (referred_job project group name) refers refl k) m
comes (suc levels) project v site path m =
    from_step (suc levels) project site path v
    (λ group name args refers k. at_level levels project site path v group name args (referred_job project group name) (comes levels project v) refers refl k) m
