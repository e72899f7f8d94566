-- Where a run is accepted, no rule refuses.
use Rattle.std.proofs.Common.{arith, ◌<◌, lit<, get_or, append_assoc, append-nil, ◌≡◌, ℕ, ◌*◌, ◌+◌, ◌≤◌, zero, suc, Bool, true, false, length, nat_le, List, [], ◌∷◌, ◌++◌, Option, Some, None, Result, Ok, Err, refl, sym, ap, ◌∙◌, subst, if◌then◌else◌}
use Rattle.std.specs.Option.{option_or}
use Rattle.std.proofs.lemmas.Option.{none-some}
use Rattle.std.proofs.lemmas.Bool.{leb-true}
use Rattle.rb_causes.specs.Causes.{unless}
use Rattle.rb_job.specs.declared.job.JobAct.{JobAct}
use Rattle.rb_plan.specs.Acceptance.{Acceptance}
use Rattle.rb_plan.specs.Inlined.{slots, act_slots, handler_slots}
use Rattle.rb_plan.specs.Laws.{IsAsked, RunIsAccepted}
use Rattle.rb_plan.specs.Resolved.{Path, ResolvedAct, own, referred, unresolved, ResolvedSteps, no_step, step}
use Rattle.rb_plan.specs.References.{Visit, visits, act_visits, handler_visits, first_bad}
use Rattle.rb_plan.specs.Refusals.{too_large}
use Rattle.rb_plan.specs.Verdict.{Asked, verdict_on, accepted_of, first_refusal}
use Rattle.rb_plan.proofs.Slots.{commands_many}
use Rattle.rb_plan.specs.Verdict as verdict
use Rattle.rb_plan.specs.declared.refusal.Refusal.{Refusal}
use Rattle.rb_plan.specs.declared.refusal.Refusal.TheVariants.{TooLarge}

abbrev IsRefusal : Result Acceptance Refusal → Type 0
IsRefusal (Err refusal) = Unit {0}
IsRefusal (Ok accepted) = ⊥

abbrev taken : Result Acceptance Refusal → Acceptance → Acceptance
taken (Ok accepted) other = accepted
taken (Err refusal) other = other

judged_ok : (given accepted : Acceptance) (refusal : Option Refusal) → unless refusal given ≡ Ok accepted → (refusal ≡ None) × (accepted ≡ given)
judged_ok given accepted None h = (refl, sym (ap (λ r. taken r given) h))
judged_ok given accepted (Some refusal) h = absurd (subst IsRefusal h tt)

-- an acceptance is the one that is assembled, and no rule refuses
pub accepted_is : (a : Asked) (accepted : Acceptance) → IsAsked a → RunIsAccepted a accepted → (first_refusal (verdict.rules a) ≡ None) × (accepted ≡ accepted_of a)
accepted_is a accepted asked ok =
    judged_ok (accepted_of a) accepted (first_refusal (verdict.rules a)) (subst (λ found. verdict_on a.world a.caller a.ask a.draw found ≡ Ok accepted) asked ok)

pub none_of : {A : Type 0} (x y : Option A) → option_or x y ≡ None → (x ≡ None) × (y ≡ None)
none_of None y h = (refl, h)
none_of (Some x) y h = absurd (none-some x (sym h))

pub few_leaves : (nodes many : ℕ) → too_large nodes many ≡ None → nodes * many ≤ 100000
few_leaves nodes many h = leb-true (nodes * many) 100000 (passes (nat_le (nodes * many) 100000) (TooLarge (nodes * many)) h)
  where
    passes : (test : Bool) (refusal : Refusal) → (if test then None else Some refusal) ≡ None → test ≡ true
    passes true refusal h = refl
    passes false refusal h = absurd (none-some refusal (sym h))

-- where none of the rules refuses, each of them says nothing
pub each_none : (rs : List (Option Refusal)) → first_refusal rs ≡ None → (k : ℕ) (d : Option Refusal) → k < length rs → get_or rs k d ≡ None
each_none [] h k d l = absurd (omega (arith, l))
each_none (r ∷ rs) h zero d l = (none_of r (first_refusal rs) h).0
each_none (r ∷ rs) h (suc k) d l = each_none rs (none_of r (first_refusal rs) h).1 k d (omega (arith, l))

pub leaves_few : (a : Asked) (accepted : Acceptance) → IsAsked a → RunIsAccepted a accepted → length accepted.nodes * accepted.plan.slots ≤ 100000
leaves_few a accepted asked ok =
    let both = accepted_is a accepted asked ok in
    subst (λ x. length x.nodes * x.plan.slots ≤ 100000) (sym both.1)
    (few_leaves (length (verdict.targets_of a)) (slots (verdict.steps_of a)) (each_none (verdict.rules a) both.0 9 None (lit< tt)))

-- commands are counted by the walk
handler_few : (left : ℕ) (path : Path) (handler : Option JobAct) (vs : List Visit) → first_bad left (handler_visits path handler ++ vs) ≡ None
    → (left' : ℕ) × (left ≡ handler_slots handler + left') × (first_bad left' vs ≡ None)
handler_few left path None vs h = (left, omega arith, h)
handler_few zero path (Some act) vs h = absurd (none-some _ (sym h))
handler_few (suc left) path (Some act) vs h = (left, omega arith, h)

mutual
  act_few : (left : ℕ) (path : Path) (act : ResolvedAct) (vs : List Visit) → first_bad left (act_visits path act ++ vs) ≡ None
      → (left' : ℕ) × (left ≡ act_slots act + left') × (first_bad left' vs ≡ None)
  act_few zero path (own act) vs h = absurd (none-some _ (sym h))
  act_few (suc left) path (own act) vs h = (left, omega arith, h)
  act_few left path (referred below args held steps) vs h = steps_few left below steps vs h
  act_few left path (unresolved below cause) vs h = absurd (none-some _ (sym h))

  pub steps_few : (left : ℕ) (path : Path) (steps : ResolvedSteps) (vs : List Visit) → first_bad left (visits path steps ++ vs) ≡ None
      → (left' : ℕ) × (left ≡ slots steps + left') × (first_bad left' vs ≡ None)
  steps_few left path no_step vs h = (left, omega arith, h)
  steps_few left path (step act handler keep steps) vs h =
      let one = act_few left path act (handler_visits path handler ++ (visits path steps ++ vs)) (split left path act handler steps vs h) in
      let two = handler_few one.0 path handler (visits path steps ++ vs) one.2 in
      let three = steps_few two.0 path steps vs two.2 in
      (three.0, omega (arith, one.1, two.1, three.1), three.2)
    where
      split : (left : ℕ) (path : Path) (act : ResolvedAct) (handler : Option JobAct) (steps : ResolvedSteps) (vs : List Visit)
          → first_bad left ((act_visits path act ++ (handler_visits path handler ++ visits path steps)) ++ vs) ≡ None
          → first_bad left (act_visits path act ++ (handler_visits path handler ++ (visits path steps ++ vs))) ≡ None
      split left path act handler steps vs h =
          ap (first_bad left) (sym (append_assoc (act_visits path act) (handler_visits path handler ++ visits path steps) vs
          ∙ ap (λ ws. act_visits path act ++ ws) (append_assoc (handler_visits path handler) (visits path steps) vs))) ∙ h

-- where the walk comes to its end there are at most 1,000
pub slots_few : (steps : ResolvedSteps) → first_bad 1000 (visits [] steps) ≡ None → slots steps ≤ 1000
slots_few steps h = let few = steps_few 1000 [] steps [] (ap (first_bad 1000) (append-nil (visits [] steps)) ∙ h) in omega (arith, few.1)

pub commands_few : (a : Asked) (accepted : Acceptance) → IsAsked a → RunIsAccepted a accepted → length accepted.commands ≤ 1000
commands_few a accepted asked ok =
    let both = accepted_is a accepted asked ok in
    let steps = verdict.steps_of a in
    subst (λ n. n ≤ 1000) (sym (ap (λ x. length x.commands) both.1 ∙ commands_many (verdict.site_of a) steps)) (slots_few steps (each_none (verdict.rules a) both.0 1 None (lit< tt)))
