-- What the walk comes to along a path of references.
use Rattle.std.proofs.Common.{arith, ◌≡◌, inl, inr, ℕ, ◌+◌, ◌≤◌, zero, suc, length, Bool, true, false, cond, List, [], ◌∷◌, ◌++◌, append_assoc, Option, Some, None, refl, sym, ap, ◌∙◌, subst, lit<}
use Rattle.std.proofs.lemmas.Option.{none-some}
use Rattle.rb_causes.specs.declared.items.Prop.{Prop}
use Rattle.rb_acl.specs.declared.policy.Decision.{Decision}
use Rattle.rb_acl.specs.declared.policy.Decision.TheVariants.{Allowed, Denied, NoneAllows}
use Rattle.rb_acl.specs.Deciding.{is_allowed}
use Rattle.rb_job.specs.declared.job.JobStep.{JobStep}
use Rattle.rb_plan.specs.Acceptance.{Acceptance}
use Rattle.rb_plan.specs.Holds.{Leads, Reaches, RefersTo}
use Rattle.rb_plan.specs.Inlined.{Site, site_below}
use Rattle.rb_plan.specs.Laws.{IsAsked, RunIsAccepted}
use Rattle.rb_plan.specs.References.{Visit, command, reference, fault, visits, act_visits, handler_visits, first_bad, first_denied}
use Rattle.rb_plan.specs.Refusals.{denied_job}
use Rattle.rb_plan.specs.Resolved.{Path, Resolver, label, resolved, resolved_act, resolved_reference}
use Rattle.rb_plan.specs.Verdict.{Asked, may_run, site_of, steps_of}
use Rattle.rb_plan.specs.Verdict as verdict
use Rattle.rb_plan.specs.Walked.{deeper, all_visits}
use Rattle.rb_plan.specs.Worlds.{referred_job}
use Rattle.rb_plan.specs.declared.world.Project.{Project}
use Rattle.rb_plan.specs.declared.world.HeldJob.{HeldJob}
use Rattle.rb_plan.specs.declared.refusal.RefCause.{RefCause}
use Rattle.rb_plan.specs.declared.refusal.RefCause.TheVariants.{TooDeep}
use Rattle.rb_plan.proofs.Accepting.{accepted_is, each_none}
use Rattle.rb_plan.proofs.Served.{Member, member_of}
use Rattle.rb_plan.proofs.Walks.{resolved_is}

pub left_of : {A : Type 0} (xs ys : List A) (x : A) → Member x xs → Member x (xs ++ ys)
left_of [] ys x h = absurd h
left_of (y ∷ xs) ys x (inl e) = inl e
left_of (y ∷ xs) ys x (inr h) = inr (left_of xs ys x h)

pub right_of : {A : Type 0} (xs ys : List A) (x : A) → Member x ys → Member x (xs ++ ys)
right_of [] ys x h = h
right_of (y ∷ xs) ys x h = inr (right_of xs ys x h)

-- what the walk comes to in a step it comes to in the steps
pub in_steps : (below : Option Resolver) (project : Project) (path : Path) (ss : List JobStep) (s : JobStep) (v : Visit) → Member s ss
    → Member v (act_visits path (resolved_act below project path s.act)) → Member v (all_visits below project path ss)
in_steps below project path [] s v h m = absurd h
in_steps below project path (y ∷ ys) s v (inl e) m =
    left_of (act_visits path (resolved_act below project path y.act)) _ v (subst (λ z. Member v (act_visits path (resolved_act below project path z.act))) e m)
in_steps below project path (y ∷ ys) s v (inr h) m =
    right_of (act_visits path (resolved_act below project path y.act)) _ v
    (right_of (handler_visits path y.handler) _ v (in_steps below project path ys s v h m))

-- and what it comes to in a reference it comes to where a step refers so
in_reference : (below : Option Resolver) (project : Project) (path : Path) (held next : HeldJob) (group name : List ℕ) (args : List Prop) (v : Visit)
    → RefersTo held group name args → referred_job project group name ≡ Some next
    → Member v (act_visits path (resolved_reference below (path ++ label group name ∷ []) args (Some next)))
    → Member v (all_visits below project path held.job.steps)
in_reference below project path held next group name args v refers found m =
    in_steps below project path held.job.steps refers.0 v (member_of held.job.steps refers.0 refers.1)
    (subst (λ act. Member v (act_visits path (resolved_act below project path act))) (sym refers.2)
    (subst (λ o. Member v (act_visits path (resolved_reference below (path ++ label group name ∷ []) args o))) (sym found) m))

abbrev pub NoFault : List Visit → Type 0
NoFault vs = (path : Path) (cause : RefCause) → Member (fault path cause) vs → ⊥

-- where no reference is at fault, a path goes no deeper than there are levels, and the walk comes
-- to its end
pub reached : (levels : ℕ) (project : Project) (site end : Site) (path : Path) (title : List ℕ) (titles : Path)
    → NoFault (all_visits (deeper levels project) project path site.held.job.steps) → Leads project site (title ∷ titles) end
    → (length titles + 1 ≤ levels) × Member (reference (path ++ title ∷ titles) end.held) (all_visits (deeper levels project) project path site.held.job.steps)
reached zero project site end path title titles sound (group, name, args, next, refers, is, found, rest) =
    absurd (sound (path ++ label group name ∷ []) TooDeep
    (in_reference None project path site.held next group name args (fault (path ++ label group name ∷ []) TooDeep) refers found (inl refl)))
reached (suc levels) project site end path title [] sound (group, name, args, next, refers, is, found, rest) = (
  omega arith,
  subst (λ t. Member (reference (path ++ t ∷ []) end.held) (all_visits (deeper (suc levels) project) project path site.held.job.steps)) (sym is)
      (in_reference (Some (resolved levels project)) project path site.held next group name args (reference (path ++ label group name ∷ []) end.held) refers found
      (inl (ap (λ e. reference (path ++ label group name ∷ []) e.held) rest))),
)
reached (suc levels) project site end path title (second ∷ titles) sound (group, name, args, next, refers, is, found, rest) =
    let under : Path = path ++ label group name ∷ [] in
    let inner : (v : Visit) → Member v (all_visits (deeper levels project) project under next.job.steps) → Member v (all_visits (deeper (suc levels) project) project path site.held.job.steps) =
    λ v m. in_reference (Some (resolved levels project)) project path site.held next group name args v refers found
    (inr (subst (λ vs. Member v vs) (sym (resolved_is levels project under next.job.steps)) m)) in
    let deep = reached levels project (site_below site args next) end under second titles (λ q c m. sound q c (inner (fault q c) m)) rest in
    let whole : under ++ second ∷ titles ≡ path ++ title ∷ second ∷ titles =
    append_assoc path (label group name ∷ []) (second ∷ titles) ∙ ap (λ t. path ++ t ∷ second ∷ titles) (sym is) in
    (omega (arith, deep.0), subst (λ q. Member (reference q end.held) (all_visits (deeper (suc levels) project) project path site.held.job.steps)) whole (inner _ deep.1))

abbrev IsFault : Visit → Type 0
IsFault (command path) = ⊥
IsFault (reference path held) = ⊥
IsFault (fault path cause) = Unit {0}

abbrev IsReference : Visit → Type 0
IsReference (command path) = ⊥
IsReference (reference path held) = Unit {0}
IsReference (fault path cause) = ⊥

abbrev job_in : Visit → HeldJob → HeldJob
job_in (command path) other = other
job_in (reference path held) other = held
job_in (fault path cause) other = other

-- where nothing is bad there is no fault
pub no_fault : (left : ℕ) (vs : List Visit) → first_bad left vs ≡ None → NoFault vs
no_fault left [] h path cause m = absurd m
no_fault zero (command p ∷ vs) h path cause m = absurd (none-some _ (sym h))
no_fault (suc left) (command p ∷ vs) h path cause (inl e) = absurd (subst IsFault e tt)
no_fault (suc left) (command p ∷ vs) h path cause (inr m) = no_fault left vs h path cause m
no_fault left (reference p held ∷ vs) h path cause (inl e) = absurd (subst IsFault e tt)
no_fault left (reference p held ∷ vs) h path cause (inr m) = no_fault left vs h path cause m
no_fault left (fault p c ∷ vs) h path cause m = absurd (none-some _ (sym h))

passes : {A : Type 0} (test : Bool) (rest : Option A) (stop : A) → cond test rest (Some stop) ≡ None → (test ≡ true) × (rest ≡ None)
passes true rest stop h = (refl, h)
passes false rest stop h = absurd (none-some stop (sym h))

-- where none is denied each referenced job is allowed
pub all_allowed : (decide : HeldJob → Decision) (vs : List Visit) → first_denied decide vs ≡ None
    → (path : Path) (held : HeldJob) → Member (reference path held) vs → is_allowed (decide held) ≡ true
all_allowed decide [] h path held m = absurd m
all_allowed decide (command p ∷ vs) h path held (inl e) = absurd (subst IsReference e tt)
all_allowed decide (command p ∷ vs) h path held (inr m) = all_allowed decide vs h path held m
all_allowed decide (fault p c ∷ vs) h path held (inl e) = absurd (subst IsReference e tt)
all_allowed decide (fault p c ∷ vs) h path held (inr m) = all_allowed decide vs h path held m
all_allowed decide (reference p x ∷ vs) h path held (inl e) =
    subst (λ j. is_allowed (decide j) ≡ true) (sym (ap (λ v. job_in v held) e)) (passes (is_allowed (decide x)) _ _ h).0
all_allowed decide (reference p x ∷ vs) h path held (inr m) = all_allowed decide vs (passes (is_allowed (decide x)) _ _ h).1 path held m

pub allowed_job : (decision : Decision) → denied_job decision ≡ None → is_allowed decision ≡ true
allowed_job (Allowed clause) h = refl
allowed_job (Denied clause) h = absurd (none-some _ (sym h))
allowed_job NoneAllows h = absurd (none-some _ (sym h))

-- each job to which a path leads may be run, and no path is longer than eight
pub may_all_be_run : (a : Asked) (accepted : Acceptance) (path : Path) (end : Site) → IsAsked a → RunIsAccepted a accepted → Reaches a path end
    → (is_allowed (may_run a end.held) ≡ true) × (length path ≤ 8)
may_all_be_run a accepted [] end asked ok is =
    let none = each_none (verdict.rules a) (accepted_is a accepted asked ok).0 in
    (subst (λ e. is_allowed (may_run a e.held) ≡ true) (sym is) (allowed_job (may_run a a.found.held) (none 0 None (lit< tt))), omega arith)
may_all_be_run a accepted (title ∷ titles) end asked ok leads =
    let none = each_none (verdict.rules a) (accepted_is a accepted asked ok).0 in
    let here = reached 8 a.found.project (site_of a) end [] title titles (no_fault 1000 (visits [] (steps_of a)) (none 1 None (lit< tt))) leads in
    (all_allowed (may_run a) (visits [] (steps_of a)) (none 2 None (lit< tt)) (title ∷ titles) end.held here.1, omega (arith, here.0))
