-- How the walk goes on from one part to the next.
use Rattle.std.proofs.Common.{arith, ◌≡◌, ℕ, ◌+◌, ◌<◌, zero, suc, add-one, length, get_or, List, [], ◌∷◌, ◌++◌, drop, Result, Ok, Err, Option, Some, None, ◌-◌, refl, sym, ap, ◌∙◌, subst}
use Rattle.std.proofs.lemmas.List.{append_assoc}
use Rattle.std.proofs.Math.Seq.{drop-cons}
use Rattle.rb_job.specs.declared.job.JobStep.{JobStep}
use Rattle.rb_plan.specs.Resolved.{Path, Resolver, resolved, resolved_job, resolved_act, resolved_reference}
use Rattle.rb_plan.specs.References.{Visit, command, reference, fault, visits, act_visits, handler_visits, first_bad, bad_reference}
use Rattle.rb_causes.specs.declared.items.Prop.{Prop}
use Rattle.rb_plan.specs.Walked.{walked, Walks, WalksReference, RefusedBy, deeper, step_visits, all_visits}
use Rattle.rb_plan.specs.declared.world.HeldJob.{HeldJob}
use Rattle.rb_plan.specs.declared.world.Project.{Project}
use Rattle.rb_plan.specs.declared.refusal.Refusal.{Refusal}
use Rattle.rb_plan.specs.declared.refusal.VerdictErr.{VerdictErr}
use Rattle.rb_plan.specs.declared.refusal.VerdictErr.TheVariants.{Refused, NoMemory}

abbrev onward : Result ℕ Refusal → List Visit → Result ℕ Refusal
onward (Ok left) vs = walked left vs
onward (Err r) vs = Err r

walked_append : (left : ℕ) (xs ys : List Visit) → walked left (xs ++ ys) ≡ onward (walked left xs) ys
walked_append left [] ys = refl
walked_append zero (command path ∷ vs) ys = refl
walked_append (suc left) (command path ∷ vs) ys = walked_append left vs ys
walked_append left (reference path held ∷ vs) ys = walked_append left vs ys
walked_append left (fault path cause ∷ vs) ys = refl

pub walks_stop : (left : ℕ) (xs ys : List Visit) (e : VerdictErr) → Walks (walked left xs) (Err e) → Walks (walked left (xs ++ ys)) (Err e)
walks_stop left xs ys (Refused r) h = walked_append left xs ys ∙ ap (λ w. onward w ys) h
walks_stop left xs ys NoMemory h = tt

pub walks_on : (left next : ℕ) (xs ys : List Visit) → walked left xs ≡ Ok next → walked left (xs ++ ys) ≡ walked next ys
walks_on left next xs ys h = walked_append left xs ys ∙ ap (λ w. onward w ys) h

-- the walk of steps is that of the first and then of the rest
steps_part : (below : Option Resolver) (project : Project) (path : Path) (s : JobStep) (ss : List JobStep)
    → step_visits below project path s ++ all_visits below project path ss ≡ all_visits below project path (s ∷ ss)
steps_part below project path s ss =
    append_assoc (act_visits path (resolved_act below project path s.act)) (handler_visits path s.handler) (all_visits below project path ss)

pub drop_step : (ss : List JobStep) (i : ℕ) (s : JobStep) → i < length ss → s ≡ get_or ss i s → drop i ss ≡ s ∷ drop (i + 1) ss
drop_step ss i s h is = drop-cons ss i s h ∙ ap (λ y. y ∷ drop (suc i) ss) (sym is) ∙ ap (λ n. s ∷ drop n ss) (sym (add-one i))

pub steps_at : (below : Option Resolver) (project : Project) (path : Path) (ss : List JobStep) (i : ℕ) (s : JobStep) → i < length ss → s ≡ get_or ss i s
    → all_visits below project path (drop i ss) ≡ step_visits below project path s ++ all_visits below project path (drop (i + 1) ss)
steps_at below project path ss i s h is =
    ap (all_visits below project path) (drop_step ss i s h is) ∙ sym (steps_part below project path s (drop (i + 1) ss))

-- one more step is walked
pub step_on : (below : Option Resolver) (project : Project) (path : Path) (ss : List JobStep) (i : ℕ) (s : JobStep) (whole : Result ℕ Refusal) (left next : ℕ)
    → i < length ss → s ≡ get_or ss i s → walked left (step_visits below project path s) ≡ Ok next
    → walked left (all_visits below project path (drop i ss)) ≡ whole → walked next (all_visits below project path (drop (i + 1) ss)) ≡ whole
step_on below project path ss i s whole left next h is went so =
    sym (walks_on left next (step_visits below project path s) (all_visits below project path (drop (i + 1) ss)) went)
    ∙ ap (walked left) (sym (steps_at below project path ss i s h is)) ∙ so

-- or stops it
pub step_stops : (below : Option Resolver) (project : Project) (path : Path) (ss : List JobStep) (i : ℕ) (s : JobStep) (whole : Result ℕ Refusal) (left : ℕ) (e : VerdictErr)
    → i < length ss → s ≡ get_or ss i s → Walks (walked left (step_visits below project path s)) (Err e)
    → walked left (all_visits below project path (drop i ss)) ≡ whole → Walks whole (Err e)
step_stops below project path ss i s whole left e h is stop so =
    subst (λ w. Walks w (Err e)) (ap (walked left) (sym (steps_at below project path ss i s h is)) ∙ so)
    (walks_stop left (step_visits below project path s) (all_visits below project path (drop (i + 1) ss)) e stop)

-- where a reference stands is told by its own path
pub same_reference : (p q : Path) (below : Option Resolver) (path : Path) (args : List Prop) (held : Option HeldJob)
    → act_visits p (resolved_reference below path args held) ≡ act_visits q (resolved_reference below path args held)
same_reference p q below path args None = refl
same_reference p q None path args (Some held) = refl
same_reference p q (Some below) path args (Some held) = refl

-- the steps of a job are resolved with one level less
pub resolved_is : (levels : ℕ) (project : Project) (path : Path) (steps : List JobStep) → visits path (resolved levels project path steps) ≡ all_visits (deeper levels project) project path steps
resolved_is zero project path steps = refl
resolved_is (suc levels) project path steps = refl

-- a reference to a job is walked as its steps are
pub reference_walked : (levels : ℕ) (project : Project) (path : Path) (found : Option HeldJob) (held : HeldJob) (left : ℕ) (result : Result ℕ VerdictErr)
    → (levels ≡ 0 → ⊥) → found ≡ Some held
    → Walks (walked left (all_visits (deeper (levels - 1) project) project path held.job.steps)) result
    → WalksReference (deeper levels project) path found left result
reference_walked zero project path found held left result some is h = absurd (some refl)
reference_walked (suc levels) project path found held left result some is h = λ args.
    let e : suc levels - 1 ≡ levels = omega arith in
    let h2 : Walks (walked left (all_visits (deeper levels project) project path held.job.steps)) result =
    subst (λ k. Walks (walked left (all_visits (deeper k project) project path held.job.steps)) result) e h in
    rw is (subst (λ vs. Walks (walked left vs) result) (sym (resolved_is levels project path held.job.steps)) h2)

abbrev refusal_in : Result ℕ Refusal → Option Refusal
refusal_in (Ok left) = None
refusal_in (Err refusal) = Some refusal

first_bad_is : (left : ℕ) (vs : List Visit) → first_bad left vs ≡ refusal_in (walked left vs)
first_bad_is left [] = refl
first_bad_is zero (command path ∷ vs) = refl
first_bad_is (suc left) (command path ∷ vs) = first_bad_is left vs
first_bad_is left (reference path held ∷ vs) = first_bad_is left vs
first_bad_is left (fault path cause ∷ vs) = refl

walked_is : (project : Project) (held : HeldJob) → bad_reference (resolved_job project held) ≡ refusal_in (walked 1000 (all_visits (deeper 8 project) project [] held.job.steps))
walked_is project held = first_bad_is 1000 (visits [] (resolved_job project held)) ∙ ap (λ vs. refusal_in (walked 1000 vs)) (resolved_is 8 project [] held.job.steps)

-- the walk of all steps of an asked job
pub references_hold : (project : Project) (held : HeldJob) (left : ℕ) → walked 1000 (all_visits (deeper 8 project) project [] held.job.steps) ≡ Ok left
    → bad_reference (resolved_job project held) ≡ None
references_hold project held left h = walked_is project held ∙ ap refusal_in h

pub references_refuse : (project : Project) (held : HeldJob) (path : Path) (steps : List JobStep) (e : VerdictErr) → path ≡ [] → steps ≡ held.job.steps
    → Walks (walked 1000 (all_visits (deeper 8 project) project path steps)) (Err e) → RefusedBy (bad_reference (resolved_job project held)) e
references_refuse project held path steps (Refused refusal) here all h =
    walked_is project held ∙ ap refusal_in (sym (ap (λ p. walked 1000 (all_visits (deeper 8 project) project p steps)) here
    ∙ ap (λ ss. walked 1000 (all_visits (deeper 8 project) project [] ss)) all) ∙ h)
references_refuse project held path steps NoMemory here all h = tt
