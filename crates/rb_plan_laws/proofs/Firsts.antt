-- Of several references the first is told.
use Rattle.std.proofs.Common.{arith, ◌≡◌, inl, inr, ℕ, zero, suc, length, Bool, true, false, cond, not, List, [], ◌∷◌, Some, None, Err, refl, sym, ap, subst}
use Rattle.std.specs.List.{filter}
use Rattle.std.proofs.lemmas.Option.{none-some}
use Rattle.rb_acl.specs.declared.policy.Decision.{Decision}
use Rattle.rb_acl.specs.Deciding.{is_allowed}
use Rattle.rb_node.specs.declared.node.Node.{Node}
use Rattle.rb_plan.specs.Inlined.{slots, option_in_steps, refused_option}
use Rattle.rb_plan.specs.Laws.{IsAsked, RunIsRefused}
use Rattle.rb_plan.specs.References.{Visit, command, reference, fault, first_bad, first_denied}
use Rattle.rb_plan.specs.Refusals.{denied_job, disabled, already_running, none_selected, none_allowed, too_large}
use Rattle.rb_plan.specs.Resolved.{Path}
use Rattle.rb_plan.specs.Verdict.{Asked, may_run, may_run_on, site_of, steps_of, chosen_of, runnable_of, targets_of, accepted_of, first_refusal, verdict_on}
use Rattle.rb_plan.specs.Verdict as verdict
use Rattle.rb_plan.specs.Worlds.{running_of}
use Rattle.rb_plan.specs.declared.world.HeldJob.{HeldJob}
use Rattle.rb_plan.specs.declared.refusal.RefCause.{RefCause}
use Rattle.rb_plan.specs.declared.refusal.RefCause.TheVariants.{TooMany}
use Rattle.rb_plan.specs.declared.refusal.Refusal.{Refusal}
use Rattle.rb_plan.specs.declared.refusal.Refusal.TheVariants.{NoJob, JobDenied, BadReference, ReferenceDenied, Disabled, AlreadyRunning, BadOption, NoNodeSelected, NoNodeAllowed, TooLarge}
use Rattle.rb_plan.proofs.Holding.{cond_some, judged_err}
use Rattle.rb_plan.proofs.Refusing.{same_in, or_some, map_some, option_is}
use Rattle.rb_plan_laws.specs.Laws.{walk_of, is_denied, FirstBad, FirstBadIsTold, FirstDenied, FirstDeniedIsTold}

-- where the walk stops, for any refusal
abbrev pub Stops : ℕ → List Visit → Refusal → Type 0
Stops most vs r = (path : Path) × (cause : RefCause) × (r ≡ BadReference path cause) × FirstBad most vs path cause

-- one more visit before it: a command
behind_command : (most : ℕ) (p : Path) (vs : List Visit) (r : Refusal) → Stops most vs r → Stops (suc most) (command p ∷ vs) r
behind_command most p vs r (path, cause, is, (before, stop, after, whole, none, why)) = (
  path,
  cause,
  is,
  (
    command p ∷ before,
    stop,
    after,
    ap (λ l. command p ∷ l) whole,
    none,
    elim why [ inl m ↦ inl (m.0, omega (arith, m.1)) | inr m ↦ inr (m.0, m.1, ap suc m.2) ],
  ),
)

-- or a reference
behind_reference : (most : ℕ) (p : Path) (held : HeldJob) (vs : List Visit) (r : Refusal) → Stops most vs r → Stops most (reference p held ∷ vs) r
behind_reference most p held vs r (path, cause, is, (before, stop, after, whole, none, why)) =
    (path, cause, is, (reference p held ∷ before, stop, after, ap (λ l. reference p held ∷ l) whole, none, why))

bad_first : (most : ℕ) (vs : List Visit) (r : Refusal) → first_bad most vs ≡ Some r → Stops most vs r
bad_first most [] r h = absurd (none-some r h)
bad_first zero (command p ∷ vs) r h = (p, TooMany, same_in _ r h, ([], command p, vs, refl, refl, inr (refl, refl, refl)))
bad_first (suc most) (command p ∷ vs) r h = behind_command most p vs r (bad_first most vs r h)
bad_first most (reference p held ∷ vs) r h = behind_reference most p held vs r (bad_first most vs r h)
bad_first most (fault p c ∷ vs) r h = (p, c, same_in _ r h, ([], fault p c, vs, refl, refl, inl (refl, omega arith)))

-- which reference is denied, for any refusal
abbrev pub Denies : (HeldJob → Decision) → List Visit → Refusal → Type 0
Denies decide vs r = (path : Path) × (decision : Decision) × (r ≡ ReferenceDenied path decision) × FirstDenied decide vs path decision

-- what is denied of a reference and of the visits behind it, where its job may be run or not
abbrev DeniesWith : Bool → (HeldJob → Decision) → Path → HeldJob → List Visit → Refusal → Type 0
DeniesWith test decide p x vs r =
    (path : Path) × (decision : Decision) × (r ≡ ReferenceDenied path decision) × ((held : HeldJob) × (rest : List Visit)
    × (cond (not test) (reference p x ∷ filter (is_denied decide) vs) (filter (is_denied decide) vs) ≡ reference path held ∷ rest) × (decision ≡ decide held))

at_reference : (decide : HeldJob → Decision) (p : Path) (x : HeldJob) (vs : List Visit) (r : Refusal) → (first_denied decide vs ≡ Some r → Denies decide vs r)
    → (test : Bool) → is_allowed (decide x) ≡ test → first_denied decide (reference p x ∷ vs) ≡ Some r → Denies decide (reference p x ∷ vs) r
at_reference decide p x vs r below true e h =
    subst (λ t. DeniesWith t decide p x vs r) (sym e) (below (subst (λ t. cond t (first_denied decide vs) (Some (ReferenceDenied p (decide x))) ≡ Some r) e h))
at_reference decide p x vs r below false e h =
    subst (λ t. DeniesWith t decide p x vs r) (sym e) (
      p,
      decide x,
      same_in (ReferenceDenied p (decide x)) r (subst (λ t. cond t (first_denied decide vs) (Some (ReferenceDenied p (decide x))) ≡ Some r) e h),
      (x, filter (is_denied decide) vs, refl, refl),
    )

denied_first : (decide : HeldJob → Decision) (vs : List Visit) (r : Refusal) → first_denied decide vs ≡ Some r → Denies decide vs r
denied_first decide [] r h = absurd (none-some r h)
denied_first decide (command p ∷ vs) r h = denied_first decide vs r h
denied_first decide (fault p c ∷ vs) r h = denied_first decide vs r h
denied_first decide (reference p x ∷ vs) r h = at_reference decide p x vs r (denied_first decide vs r) (is_allowed (decide x)) refl h

-- what is said of a refusal's reference; of the others nothing
abbrev pub IsFirst : Asked → Refusal → Type 0
IsFirst a NoJob = Unit {0}
IsFirst a (JobDenied decision) = Unit {0}
IsFirst a (BadReference path cause) = FirstBad 1000 (walk_of a) path cause
IsFirst a (ReferenceDenied path decision) = FirstDenied (may_run a) (walk_of a) path decision
IsFirst a Disabled = Unit {0}
IsFirst a (AlreadyRunning execution) = Unit {0}
IsFirst a (BadOption path flaw) = Unit {0}
IsFirst a NoNodeSelected = Unit {0}
IsFirst a (NoNodeAllowed name decision) = Unit {0}
IsFirst a (TooLarge leaves) = Unit {0}

of_job : (a : Asked) (r : Refusal) → denied_job (may_run a a.found.held) ≡ Some r → IsFirst a r
of_job a r h = let k = cond_some (is_allowed (may_run a a.found.held)) (Some (JobDenied (may_run a a.found.held))) r h in
    subst (IsFirst a) (sym (same_in _ r k.1)) tt

of_bad : (a : Asked) (r : Refusal) → first_bad 1000 (walk_of a) ≡ Some r → IsFirst a r
of_bad a r h = let k = bad_first 1000 (walk_of a) r h in subst (IsFirst a) (sym k.2) k.3

of_denied : (a : Asked) (r : Refusal) → first_denied (may_run a) (walk_of a) ≡ Some r → IsFirst a r
of_denied a r h = let k = denied_first (may_run a) (walk_of a) r h in subst (IsFirst a) (sym k.2) k.3

of_disabled : (a : Asked) (r : Refusal) → disabled a.found.held.job ≡ Some r → IsFirst a r
of_disabled a r h = let k = cond_some a.found.held.job.enabled (Some Disabled) r h in subst (IsFirst a) (sym (same_in _ r k.1)) tt

of_running : (a : Asked) (r : Refusal) → already_running a.found.held.job (running_of a.world a.found.held.id) ≡ Some r → IsFirst a r
of_running a r h =
    let k = cond_some a.found.held.job.multiple _ r h in
    let n = map_some (λ execution. AlreadyRunning execution) (running_of a.world a.found.held.id) r k.1 in
    subst (IsFirst a) (sym n.2) tt

of_own_option : (a : Asked) (r : Refusal) → refused_option [] a.found.held.job.options a.ask.given ≡ Some r → IsFirst a r
of_own_option a r h = let k = map_some (λ flaw. BadOption [] flaw) _ r h in subst (IsFirst a) (sym k.2) tt

of_option : (a : Asked) (r : Refusal) → option_in_steps (site_of a) (steps_of a) ≡ Some r → IsFirst a r
of_option a r h = let k = option_is 8 a.found.project r (site_of a) [] h in subst (IsFirst a) (sym k.7) tt

of_selected : (a : Asked) (nodes : List Node) (r : Refusal) → none_selected a.found.held.job nodes ≡ Some r → IsFirst a r
of_selected a (n ∷ ns) r h = absurd (none-some r h)
of_selected a [] r h =
    let k = cond_some a.found.held.job.success_on_empty (Some NoNodeSelected) r h in subst (IsFirst a) (sym (same_in _ r k.1)) tt

of_allowed : (a : Asked) (nodes run : List Node) (r : Refusal) → none_allowed (may_run_on a) nodes run ≡ Some r → IsFirst a r
of_allowed a [] run r h = absurd (none-some r h)
of_allowed a (n ∷ ns) (m ∷ ms) r h = absurd (none-some r h)
of_allowed a (n ∷ ns) [] r h = subst (IsFirst a) (sym (same_in _ r h)) tt

of_large : (a : Asked) (nodes many : ℕ) (r : Refusal) → too_large nodes many ≡ Some r → IsFirst a r
of_large a nodes many r h = let k = cond_some _ _ r h in subst (IsFirst a) (sym (same_in _ r k.1)) tt

-- what the first of the rules that refuses says is of the first reference
rule_first : (a : Asked) (r : Refusal) → first_refusal (verdict.rules a) ≡ Some r → IsFirst a r
rule_first a r h =
    elim (or_some _ _ r h) [
      | inl m ↦ of_job a r m
      | inr h1 ↦ elim (or_some _ _ r h1) [
        | inl m ↦ of_bad a r m
        | inr h2 ↦ elim (or_some _ _ r h2) [
          | inl m ↦ of_denied a r m
          | inr h3 ↦ elim (or_some _ _ r h3) [
            | inl m ↦ of_disabled a r m
            | inr h4 ↦ elim (or_some _ _ r h4) [
              | inl m ↦ of_running a r m
              | inr h5 ↦ elim (or_some _ _ r h5) [
                | inl m ↦ of_own_option a r m
                | inr h6 ↦ elim (or_some _ _ r h6) [
                  | inl m ↦ of_option a r m
                  | inr h7 ↦ elim (or_some _ _ r h7) [
                    | inl m ↦ of_selected a (chosen_of a) r m
                    | inr h8 ↦ elim (or_some _ _ r h8) [
                      | inl m ↦ of_allowed a (chosen_of a) (runnable_of a) r m
                      | inr h9 ↦ elim (or_some _ None r h9) [
                        | inl m ↦ of_large a (length (targets_of a)) (slots (steps_of a)) r m
                        | inr m ↦ absurd (none-some r m)
                      ]
                    ]
                  ]
                ]
              ]
            ]
          ]
        ]
      ]
    ]

refused_first : (a : Asked) (r : Refusal) → IsAsked a → RunIsRefused a r → IsFirst a r
refused_first a r asked told =
    rule_first a r (judged_err (accepted_of a) (first_refusal (verdict.rules a)) r
    (subst (λ found. verdict_on a.world a.caller a.ask a.draw found ≡ Err r) asked told))

pub first_bad_told : FirstBadIsTold
first_bad_told a path cause asked told = refused_first a (BadReference path cause) asked told

pub first_denied_told : FirstDeniedIsTold
first_denied_told a path decision asked told = refused_first a (ReferenceDenied path decision) asked told
