-- How the rule on referenced jobs goes on from one part of the walk to the next.
use Rattle.std.proofs.Common.{arith, ◌≡◌, ℕ, ◌+◌, ◌<◌, ◌-◌, zero, suc, Bool, true, false, cond, length, get_or, List, [], ◌∷◌, ◌++◌, drop, Option, Some, None, refl, sym, ap, ◌∙◌, subst}
use Rattle.std.specs.Option.{option_or}
use Rattle.rb_acl.specs.declared.policy.Decision.{Decision}
use Rattle.rb_acl.specs.Deciding.{is_allowed}
use Rattle.rb_causes.specs.declared.items.Prop.{Prop}
use Rattle.rb_job.specs.declared.job.JobStep.{JobStep}
use Rattle.rb_job.specs.declared.job.JobAct.{JobAct}
use Rattle.rb_plan.specs.Resolved.{Path, Resolver, resolved, resolved_job, resolved_act, resolved_reference}
use Rattle.rb_plan.specs.References.{Visit, command, reference, fault, visits, act_visits, handler_visits, first_denied, denied_reference}
use Rattle.rb_plan.specs.Walked.{RefusedBy, deeper, step_visits, all_visits}
use Rattle.rb_plan.specs.declared.world.HeldJob.{HeldJob}
use Rattle.rb_plan.specs.declared.world.Project.{Project}
use Rattle.rb_plan.specs.declared.refusal.Refusal.{Refusal}
use Rattle.rb_plan.specs.declared.refusal.Refusal.TheVariants.{ReferenceDenied}
use Rattle.rb_plan.specs.declared.refusal.VerdictErr.{VerdictErr}
use Rattle.rb_plan.specs.declared.refusal.VerdictErr.TheVariants.{Refused, NoMemory}
use Rattle.rb_plan.proofs.Walks.{steps_at, resolved_is}

pub denied_append : (decide : HeldJob → Decision) (xs ys : List Visit)
    → first_denied decide (xs ++ ys) ≡ option_or (first_denied decide xs) (first_denied decide ys)
denied_append decide [] ys = refl
denied_append decide (command path ∷ vs) ys = denied_append decide vs ys
denied_append decide (fault path cause ∷ vs) ys = denied_append decide vs ys
denied_append decide (reference path held ∷ vs) ys = at (is_allowed (decide held)) (denied_append decide vs ys)
  where
    at : (b : Bool) → first_denied decide (vs ++ ys) ≡ option_or (first_denied decide vs) (first_denied decide ys)
        → cond b (first_denied decide (vs ++ ys)) (Some (ReferenceDenied path (decide held)))
        ≡ option_or (cond b (first_denied decide vs) (Some (ReferenceDenied path (decide held)))) (first_denied decide ys)
    at true again = again
    at false again = refl

-- a rule that refuses stops what follows
pub or_stops : (x y : Option Refusal) (e : VerdictErr) → RefusedBy x e → RefusedBy (option_or x y) e
or_stops x y (Refused refusal) h = ap (λ o. option_or o y) h
or_stops x y NoMemory h = tt

pub or_on : (x y : Option Refusal) → x ≡ None → option_or x y ≡ y
or_on x y h = ap (λ o. option_or o y) h

-- a step is refused where its act is
handler_allowed : (decide : HeldJob → Decision) (path : Path) (handler : Option JobAct) → first_denied decide (handler_visits path handler) ≡ None
handler_allowed decide path None = refl
handler_allowed decide path (Some act) = refl

pub or_none : (x : Option Refusal) → option_or x None ≡ x
or_none None = refl
or_none (Some r) = refl

denied_step : (decide : HeldJob → Decision) (below : Option Resolver) (project : Project) (path : Path) (s : JobStep)
    → first_denied decide (step_visits below project path s) ≡ first_denied decide (act_visits path (resolved_act below project path s.act))
denied_step decide below project path s =
    denied_append decide (act_visits path (resolved_act below project path s.act)) (handler_visits path s.handler)
    ∙ ap (λ o. option_or (first_denied decide (act_visits path (resolved_act below project path s.act))) o) (handler_allowed decide path s.handler)
    ∙ or_none (first_denied decide (act_visits path (resolved_act below project path s.act)))

denied_at : (decide : HeldJob → Decision) (below : Option Resolver) (project : Project) (path : Path) (ss : List JobStep) (i : ℕ) (s : JobStep)
    → i < length ss → s ≡ get_or ss i s
    → first_denied decide (all_visits below project path (drop i ss))
    ≡ option_or (first_denied decide (act_visits path (resolved_act below project path s.act))) (first_denied decide (all_visits below project path (drop (i + 1) ss)))
denied_at decide below project path ss i s h is =
    ap (first_denied decide) (steps_at below project path ss i s h is)
    ∙ denied_append decide (step_visits below project path s) (all_visits below project path (drop (i + 1) ss))
    ∙ ap (λ o. option_or o (first_denied decide (all_visits below project path (drop (i + 1) ss)))) (denied_step decide below project path s)

-- one more step is looked at
pub deny_on : (decide : HeldJob → Decision) (below : Option Resolver) (project : Project) (path : Path) (ss : List JobStep) (i : ℕ) (s : JobStep) (whole : Option Refusal)
    → i < length ss → s ≡ get_or ss i s → first_denied decide (act_visits path (resolved_act below project path s.act)) ≡ None
    → first_denied decide (all_visits below project path (drop i ss)) ≡ whole → first_denied decide (all_visits below project path (drop (i + 1) ss)) ≡ whole
deny_on decide below project path ss i s whole h is none so =
    sym (denied_at decide below project path ss i s h is
    ∙ or_on (first_denied decide (act_visits path (resolved_act below project path s.act))) (first_denied decide (all_visits below project path (drop (i + 1) ss))) none) ∙ so

-- or stops
pub deny_stops : (decide : HeldJob → Decision) (below : Option Resolver) (project : Project) (path : Path) (ss : List JobStep) (i : ℕ) (s : JobStep) (whole : Option Refusal) (e : VerdictErr)
    → i < length ss → s ≡ get_or ss i s → RefusedBy (first_denied decide (act_visits path (resolved_act below project path s.act))) e
    → first_denied decide (all_visits below project path (drop i ss)) ≡ whole → RefusedBy whole e
deny_stops decide below project path ss i s whole e h is stop so =
    subst (λ o. RefusedBy o e) (sym (denied_at decide below project path ss i s h is) ∙ so)
    (or_stops (first_denied decide (act_visits path (resolved_act below project path s.act))) (first_denied decide (all_visits below project path (drop (i + 1) ss))) e stop)

-- a job that may not be run refuses the reference to it
pub reference_denied : (decide : HeldJob → Decision) (levels : ℕ) (project : Project) (path : Path) (held : HeldJob) (args : List Prop) → (levels ≡ 0 → ⊥) → is_allowed (decide held) ≡ false
    → first_denied decide (act_visits path (resolved_reference (deeper levels project) path args (Some held))) ≡ Some (ReferenceDenied path (decide held))
reference_denied decide zero project path held args some denied = absurd (some refl)
reference_denied decide (suc levels) project path held args some denied =
    ap (λ b. cond b (first_denied decide (visits path (resolved levels project path held.job.steps))) (Some (ReferenceDenied path (decide held)))) denied

-- else its steps do
pub reference_passed : (decide : HeldJob → Decision) (levels : ℕ) (project : Project) (path : Path) (held : HeldJob) (args : List Prop) → (levels ≡ 0 → ⊥) → is_allowed (decide held) ≡ true
    → first_denied decide (act_visits path (resolved_reference (deeper levels project) path args (Some held))) ≡ first_denied decide (all_visits (deeper (levels - 1) project) project path held.job.steps)
reference_passed decide zero project path held args some allowed = absurd (some refl)
reference_passed decide (suc levels) project path held args some allowed =
    let e : suc levels - 1 ≡ levels = omega arith in
    ap (λ b. cond b (first_denied decide (visits path (resolved levels project path held.job.steps))) (Some (ReferenceDenied path (decide held)))) allowed
    ∙ ap (first_denied decide) (resolved_is levels project path held.job.steps ∙ ap (λ k. all_visits (deeper k project) project path held.job.steps) (sym e))

-- the rule on an asked job
pub denied_is : (decide : HeldJob → Decision) (project : Project) (held : HeldJob)
    → first_denied decide (all_visits (deeper 8 project) project [] held.job.steps) ≡ denied_reference decide (resolved_job project held)
denied_is decide project held = ap (first_denied decide) (sym (resolved_is 8 project [] held.job.steps))
