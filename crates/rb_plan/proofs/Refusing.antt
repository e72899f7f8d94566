-- Why each rule refuses, where it does.
use Rattle.std.proofs.Common.{arith, ◌≡◌, ◌⊎◌, inl, inr, ℕ, ◌+◌, ◌<◌, zero, suc, Bool, true, false, cond, List, [], ◌∷◌, ◌++◌, append_assoc, Option, Some, None, option_map, unwrap_or, refl, sym, ap, ◌∙◌}
use Rattle.std.specs.List.{Contains}
use Rattle.std.specs.Option.{option_or}
use Rattle.std.proofs.lemmas.Option.{none-some}
use Rattle.rb_causes.specs.declared.items.Prop.{Prop}
use Rattle.rb_acl.specs.declared.policy.Decision.{Decision}
use Rattle.rb_acl.specs.Deciding.{is_allowed}
use Rattle.rb_job.specs.declared.job.JobStep.{JobStep}
use Rattle.rb_job.specs.declared.job.JobAct.{JobAct}
use Rattle.rb_job.specs.declared.job.JobAct.TheVariants.{Exec, Script, Refer}
use Rattle.rb_option.specs.Settled.{settling_fault}
use Rattle.rb_option.specs.declared.option_err.OptionFault.{OptionFault}
use Rattle.rb_plan.specs.Holds.{Leads, RefersTo}
use Rattle.rb_plan.specs.Inlined.{Site, site_below, given_at, refused_option, option_in_act, option_in_steps, slots, act_slots, handler_slots}
use Rattle.rb_plan.specs.References.{Visit, command, reference, fault, visits, act_visits, handler_visits, first_bad, first_denied}
use Rattle.rb_plan.specs.Resolved.{Path, Resolver, ResolvedAct, own, referred, unresolved, ResolvedSteps, no_step, step, label, resolved, resolved_act, resolved_steps, resolved_reference}
use Rattle.rb_plan.specs.Worlds.{referred_job}
use Rattle.rb_plan.specs.declared.world.Project.{Project}
use Rattle.rb_plan.specs.declared.world.HeldJob.{HeldJob}
use Rattle.rb_plan.specs.declared.refusal.RefCause.{RefCause}
use Rattle.rb_plan.specs.declared.refusal.RefCause.TheVariants.{TooMany}
use Rattle.rb_plan.specs.declared.refusal.Refusal.{Refusal}
use Rattle.rb_plan.specs.declared.refusal.Refusal.TheVariants.{BadReference, ReferenceDenied, BadOption}
use Rattle.rb_plan.proofs.Served.{Member, contains_of}

pub same_in : {A : Type 0} (x y : A) → Some x ≡ Some y → y ≡ x
same_in x y h = sym (ap (λ o. unwrap_or o x) h)

pub or_some : {A : Type 0} (x y : Option A) (r : A) → option_or x y ≡ Some r → (x ≡ Some r) ⊎ (y ≡ Some r)
or_some None y r h = inr h
or_some (Some x) y r h = inl h

pub map_some : {A B : Type 0} (f : A → B) (o : Option A) (r : B) → option_map f o ≡ Some r → (x : A) × (o ≡ Some x) × (r ≡ f x)
map_some f None r h = absurd (none-some r h)
map_some f (Some x) r h = (x, refl, same_in (f x) r h)

-- how many commands and handlers the walk comes to
abbrev pub commands_in : List Visit → ℕ
commands_in [] = 0
commands_in (command path ∷ vs) = 1 + commands_in vs
commands_in (reference path held ∷ vs) = commands_in vs
commands_in (fault path cause ∷ vs) = commands_in vs

commands_join : (xs ys : List Visit) → commands_in (xs ++ ys) ≡ commands_in xs + commands_in ys
commands_join [] ys = omega arith
commands_join (command path ∷ vs) ys = rw (commands_join vs ys) (omega arith)
commands_join (reference path held ∷ vs) ys = commands_join vs ys
commands_join (fault path cause ∷ vs) ys = commands_join vs ys

handler_count : (path : Path) (handler : Option JobAct) → commands_in (handler_visits path handler) ≡ handler_slots handler
handler_count path None = refl
handler_count path (Some act) = omega arith

mutual
  act_count : (path : Path) (act : ResolvedAct) → commands_in (act_visits path act) ≡ act_slots act
  act_count path (own act) = omega arith
  act_count path (referred below args held steps) = steps_count below steps
  act_count path (unresolved below cause) = refl

  -- as many as there are slots
  pub steps_count : (path : Path) (steps : ResolvedSteps) → commands_in (visits path steps) ≡ slots steps
  steps_count path no_step = refl
  steps_count path (step act handler keep steps) =
      rw (
        commands_join (act_visits path act) (handler_visits path handler ++ visits path steps),
        commands_join (handler_visits path handler) (visits path steps),
        act_count path act,
        handler_count path handler,
        steps_count path steps,
      ) refl

-- a bad reference is one at fault, or a command past those that may be
pub bad_is : (left : ℕ) (vs : List Visit) (r : Refusal) → first_bad left vs ≡ Some r
    → (q : Path) × (cause : RefCause) × (r ≡ BadReference q cause) × (Member (fault q cause) vs ⊎ ((cause ≡ TooMany) × Member (command q) vs × (left < commands_in vs)))
bad_is left [] r h = absurd (none-some r h)
bad_is zero (command p ∷ vs) r h = (p, TooMany, same_in _ r h, inr (refl, inl refl, omega arith))
bad_is (suc left) (command p ∷ vs) r h =
    let k = bad_is left vs r h in (k.0, k.1, k.2, elim k.3 [ inl m ↦ inl (inr m) | inr m ↦ inr (m.0, inr m.1, omega (arith, m.2)) ])
bad_is left (reference p held ∷ vs) r h =
    let k = bad_is left vs r h in (k.0, k.1, k.2, elim k.3 [ inl m ↦ inl (inr m) | inr m ↦ inr (m.0, inr m.1, m.2) ])
bad_is left (fault p c ∷ vs) r h = (p, c, same_in _ r h, inl (inl refl))

pub stops : {A : Type 0} (test : Bool) (rest : Option A) (stop r : A) → cond test rest (Some stop) ≡ Some r → (rest ≡ Some r) ⊎ ((test ≡ false) × (r ≡ stop))
stops true rest stop r h = inl h
stops false rest stop r h = inr (refl, same_in stop r h)

-- a denied reference is one to a job that may not be run
pub denied_is : (decide : HeldJob → Decision) (vs : List Visit) (r : Refusal) → first_denied decide vs ≡ Some r
    → (q : Path) × (held : HeldJob) × Member (reference q held) vs × (r ≡ ReferenceDenied q (decide held)) × (is_allowed (decide held) ≡ false)
denied_is decide [] r h = absurd (none-some r h)
denied_is decide (command p ∷ vs) r h = let k = denied_is decide vs r h in (k.0, k.1, inr k.2, k.3, k.4)
denied_is decide (fault p c ∷ vs) r h = let k = denied_is decide vs r h in (k.0, k.1, inr k.2, k.3, k.4)
denied_is decide (reference p x ∷ vs) r h =
    elim (stops (is_allowed (decide x)) (first_denied decide vs) (ReferenceDenied p (decide x)) r h) [
      | inl m ↦ let k = denied_is decide vs r m in (k.0, k.1, inr k.2, k.3, k.4)
      | inr m ↦ (p, x, inl refl, m.1, m.0)
    ]

-- where a refused option of a reference comes from
abbrev pub FromOption : Project → Site → Path → Refusal → Type 0
FromOption project site path r =
    (titles : Path) × (end : Site) × (group : List ℕ) × (name : List ℕ) × (args : List Prop) × (next : HeldJob) × (flaw : OptionFault)
    × (r ≡ BadOption (path ++ (titles ++ label group name ∷ [])) flaw) × Leads project site titles end × RefersTo end.held group name args
    × (referred_job project group name ≡ Some next) × (settling_fault next.job.options (given_at end args) ≡ Some flaw)

pub option_step : (below : Option Resolver) (project : Project) (site : Site) (path : Path) (ss : List JobStep) (r : Refusal)
    → option_in_steps site (resolved_steps below project path ss) ≡ Some r → (s : JobStep) × Member s ss × (option_in_act site (resolved_act below project path s.act) ≡ Some r)
option_step below project site path [] r h = absurd (none-some r h)
option_step below project site path (s ∷ ss) r h =
    elim (or_some (option_in_act site (resolved_act below project path s.act)) _ r h) [
      | inl m ↦ (s, inl refl, m)
      | inr m ↦ let k = option_step below project site path ss r m in (k.0, inr k.1, k.2)
    ]

option_further : (project : Project) (site : Site) (path : Path) (group name : List ℕ) (args : List Prop) (next : HeldJob) (r : Refusal)
    → RefersTo site.held group name args → referred_job project group name ≡ Some next
    → FromOption project (site_below site args next) (path ++ label group name ∷ []) r → FromOption project site path r
option_further project site path group name args next r refers found (titles, end, g, n, given, last, flaw, is, leads, to, held, why) = (
  label group name ∷ titles,
  end,
  g,
  n,
  given,
  last,
  flaw,
  is ∙ ap (λ q. BadOption q flaw) (append_assoc path (label group name ∷ []) (titles ++ label g n ∷ [])),
  (group, name, args, next, refers, refl, found, leads),
  to,
  held,
  why,
)

-- of an act, where it is known of the jobs below
option_act : (below : Option Resolver) (project : Project) (site : Site) (path : Path) (r : Refusal) (s : JobStep) (act : JobAct) → Contains site.held.job.steps s → s.act ≡ act
    → ((group name : List ℕ) (args : List Prop) → RefersTo site.held group name args
    → option_in_act site (resolved_reference below (path ++ label group name ∷ []) args (referred_job project group name)) ≡ Some r → FromOption project site path r)
    → option_in_act site (resolved_act below project path act) ≡ Some r → FromOption project site path r
option_act below project site path r s (Exec words) has is at h = absurd (none-some r h)
option_act below project site path r s (Script text args) has is at h = absurd (none-some r h)
option_act below project site path r s (Refer group name args) has is at h = at group name args (s, has, is) h

option_at : (levels : ℕ) (project : Project) (site : Site) (path : Path) (r : Refusal) (group name : List ℕ) (args : List Prop) (o : Option HeldJob)
    → ((site : Site) (path : Path) → option_in_steps site (resolved levels project path site.held.job.steps) ≡ Some r → FromOption project site path r)
    → RefersTo site.held group name args → referred_job project group name ≡ o
    → option_in_act site (resolved_reference (Some (resolved levels project)) (path ++ label group name ∷ []) args o) ≡ Some r → FromOption project site path r
option_at levels project site path r group name args None below refers found h = absurd (none-some r h)
option_at levels project site path r group name args (Some next) below refers found h =
    elim (or_some (refused_option (path ++ label group name ∷ []) next.job.options (given_at site args)) _ r h) [
      | inl m ↦ let k = map_some (λ flaw. BadOption (path ++ label group name ∷ []) flaw) (settling_fault next.job.options (given_at site args)) r m in
          ([], site, group, name, args, next, k.0, k.2, refl, refers, found, k.1)
      | inr m ↦ option_further project site path group name args next r refers found (below (site_below site args next) (path ++ label group name ∷ []) m)
    ]

option_last : (project : Project) (site : Site) (path : Path) (r : Refusal) (args : List Prop) (o : Option HeldJob) {P : Type 0}
    → option_in_act site (resolved_reference None path args o) ≡ Some r → P
option_last project site path r args None h = absurd (none-some r h)
option_last project site path r args (Some next) h = absurd (none-some r h)

pub option_is : (levels : ℕ) (project : Project) (r : Refusal) (site : Site) (path : Path) → option_in_steps site (resolved levels project path site.held.job.steps) ≡ Some r → FromOption project site path r
option_is zero project r site path h =
    let k = option_step None project site path site.held.job.steps r h in
    option_act None project site path r k.0 k.0.act (contains_of site.held.job.steps k.0 k.1) refl
    (λ group name args refers m. option_last project site (path ++ label group name ∷ []) r args (referred_job project group name) m) k.2
option_is (suc levels) project r site path h =
    let k = option_step (Some (resolved levels project)) project site path site.held.job.steps r h in
    option_act (Some (resolved levels project)) project site path r k.0 k.0.act (contains_of site.held.job.steps k.0 k.1) refl
    (λ group name args refers m. option_at levels project site path r group name args (referred_job project group name) (option_is levels project r) refers refl m) k.2
