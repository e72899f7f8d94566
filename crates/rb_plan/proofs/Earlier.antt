-- No rule holds that is looked at before the one that refuses, and none where a run is accepted.
use Rattle.std.proofs.Common.{arith, ◌≡◌, ◌⊎◌, inl, inr, ℕ, ◌+◌, ◌*◌, ◌≤◌, ◌<◌, zero, suc, length, get_or, nat_le, List, [], ◌∷◌, Option, Some, None, Err, refl, sym, ap, ◌∙◌, subst, lit<}
use Rattle.std.specs.Option.{option_or}
use Rattle.std.proofs.lemmas.Option.{none-some}
use Rattle.std.proofs.lemmas.Bool.{true≢false}
use Rattle.rb_acl.specs.Deciding.{is_allowed}
use Rattle.rb_node.specs.declared.node.Node.{Node}
use Rattle.rb_plan.specs.Acceptance.{Acceptance}
use Rattle.rb_plan.specs.Holds.{RuleHolds}
use Rattle.rb_plan.specs.Inlined.{slots}
use Rattle.rb_plan.specs.Laws.{IsAsked, RunIsAccepted, RunIsRefused}
use Rattle.rb_plan.specs.References.{visits}
use Rattle.rb_plan.specs.Refusals.{refusal_number, none_selected, none_allowed}
use Rattle.rb_plan.specs.Verdict.{Asked, may_run, may_run_on, site_of, steps_of, chosen_of, runnable_of, targets_of, verdict_on, accepted_of, first_refusal}
use Rattle.rb_plan.specs.Verdict as verdict
use Rattle.rb_plan.specs.Worlds.{running_of}
use Rattle.rb_plan.specs.declared.refusal.Refusal.{Refusal}
use Rattle.rb_plan.specs.declared.refusal.Refusal.TheVariants.{NoJob, JobDenied, BadReference, ReferenceDenied, Disabled, AlreadyRunning, BadOption, NoNodeSelected, NoNodeAllowed, TooLarge}
use Rattle.rb_plan.proofs.Accepting.{accepted_is, each_none, few_leaves}
use Rattle.rb_plan.proofs.Holding.{cond_some, judged_err}
use Rattle.rb_plan.proofs.Quiet.{cond_none, no_bad, no_denied, no_option, no_running, no_selection, no_allowance}
use Rattle.rb_plan.proofs.Reaching.{allowed_job}
use Rattle.rb_plan.proofs.Refusing.{map_some, same_in, bad_is, denied_is, option_is}

-- the rules before one of them say nothing
abbrev Silent : Asked → ℕ → Type 0
Silent a j = (k : ℕ) → k < j → get_or (verdict.rules a) k None ≡ None

-- then no refusal holds that is looked for among them
quiet : (a : Asked) (j bound : ℕ) (e : Refusal) → Silent a j → refusal_number e < bound → bound ≤ j + 2 → (6 ≤ j → bound ≤ j + 1) → RuleHolds a e → ⊥
quiet a j bound NoJob none low top late h = h
quiet a j bound (JobDenied decision) none low top late (is, not_so) =
    true≢false (sym (allowed_job (may_run a a.found.held) (none 0 (omega (arith, low, top)))) ∙ ap is_allowed (sym is) ∙ not_so)
quiet a j bound (BadReference path cause) none low top late h = no_bad a (none 1 (omega (arith, low, top))) path cause h
quiet a j bound (ReferenceDenied path decision) none low top late h = no_denied a (none 1 (omega (arith, low, top))) (none 2 (omega (arith, low, top))) path decision h
quiet a j bound Disabled none low top late h = none-some _ (sym (cond_none a.found.held.job.enabled (Some Disabled) (none 3 (omega (arith, low, top))) h))
quiet a j bound (AlreadyRunning n) none low top late h = no_running a (none 4 (omega (arith, low, top))) n h
quiet a j bound (BadOption path flaw) none low top late h =
    let more = late (omega (arith, low, top)) in
    no_option a (none 1 (omega (arith, low, top))) (none 5 (omega (arith, low, top))) (none 6 (omega (arith, low, more))) path flaw h
quiet a j bound NoNodeSelected none low top late h =
    let more = late (omega (arith, low, top)) in no_selection a (chosen_of a) refl (none 7 (omega (arith, low, more))) h
quiet a j bound (NoNodeAllowed name decision) none low top late h =
    let more = late (omega (arith, low, top)) in no_allowance a (chosen_of a) (runnable_of a) refl refl (none 8 (omega (arith, low, more))) name decision h
quiet a j bound (TooLarge leaves) none low top late (is, many) =
    let more = late (omega (arith, low, top)) in
    let few = few_leaves (length (targets_of a)) (slots (steps_of a)) (none 9 (omega (arith, low, more))) in
    let many2 : 100000 < length (targets_of a) * slots (steps_of a) = subst (λ n. 100000 < n) is many in
    absurd (omega (arith, few, many2))

at_most : (r : Refusal) → refusal_number r < 11
at_most NoJob = lit< tt
at_most (JobDenied d) = lit< tt
at_most (BadReference p c) = lit< tt
at_most (ReferenceDenied p d) = lit< tt
at_most Disabled = lit< tt
at_most (AlreadyRunning n) = lit< tt
at_most (BadOption p f) = lit< tt
at_most NoNodeSelected = lit< tt
at_most (NoNodeAllowed n d) = lit< tt
at_most (TooLarge n) = lit< tt

pub none_holds : (a : Asked) (accepted : Acceptance) (refusal : Refusal) → IsAsked a → RunIsAccepted a accepted → RuleHolds a refusal → ⊥
none_holds a accepted refusal asked ok h =
    quiet a 10 11 refusal (λ k l. each_none (verdict.rules a) (accepted_is a accepted asked ok).0 k None l) (at_most refusal) (omega arith) (λ s. omega arith) h

or_first : {A : Type 0} (x y : Option A) (r : A) → option_or x y ≡ Some r → (x ≡ Some r) ⊎ ((x ≡ None) × (y ≡ Some r))
or_first None y r h = inr (refl, h)
or_first (Some x) y r h = inl h

-- the first rule that refuses, with those before it
first_rule : (rs : List (Option Refusal)) (r : Refusal) → first_refusal rs ≡ Some r
    → (j : ℕ) × (j < length rs) × (get_or rs j None ≡ Some r) × ((k : ℕ) → k < j → get_or rs k None ≡ None)
first_rule [] r h = absurd (none-some r h)
first_rule (x ∷ rs) r h =
    elim (or_first x (first_refusal rs) r h) [
      | inl e ↦ (0, omega arith, e, λ k l. absurd (omega (arith, l)))
      | inr e ↦ let d = first_rule rs r e.1 in (suc d.0, omega (arith, d.1), d.2, λ k l. before x rs d.0 e.0 d.3 k l)
    ]
  where
    before : (x : Option Refusal) (rs : List (Option Refusal)) (j : ℕ) → x ≡ None → ((k : ℕ) → k < j → get_or rs k None ≡ None) → (k : ℕ) → k < suc j → get_or (x ∷ rs) k None ≡ None
    before x rs j none later zero l = none
    before x rs j none later (suc k) l = later k (omega (arith, l))

-- the number of a refusal by the place of its rule
abbrev IsAt : ℕ → Refusal → Type 0
IsAt j r = (refusal_number r ≤ j + 2) × (6 ≤ j → refusal_number r ≤ j + 1)

selected_is : (job : _) (nodes : List Node) (r : Refusal) → none_selected job nodes ≡ Some r → r ≡ NoNodeSelected
selected_is job [] r h = same_in _ r (cond_some job.success_on_empty (Some NoNodeSelected) r h).1
selected_is job (n ∷ ns) r h = absurd (none-some r h)

allowed_is : (decide : _) (nodes run : List Node) (r : Refusal) → none_allowed decide nodes run ≡ Some r → refusal_number r ≡ 9
allowed_is decide [] run r h = absurd (none-some r h)
allowed_is decide (n ∷ ns) (m ∷ ms) r h = absurd (none-some r h)
allowed_is decide (n ∷ ns) [] r h = ap refusal_number (same_in _ r h)

number_at : (a : Asked) (j : ℕ) (r : Refusal) → j < 10 → get_or (verdict.rules a) j None ≡ Some r → IsAt j r
number_at a zero r l h = let e = ap refusal_number (same_in _ r (cond_some (is_allowed (may_run a a.found.held)) (Some (JobDenied (may_run a a.found.held))) r h).1) in (omega (arith, e), λ s. absurd (omega (arith, s)))
number_at a (suc zero) r l h = let e = ap refusal_number (bad_is 1000 (visits [] (steps_of a)) r h).2 in (omega (arith, e), λ s. absurd (omega (arith, s)))
number_at a (suc (suc zero)) r l h = let e = ap refusal_number (denied_is (may_run a) (visits [] (steps_of a)) r h).3 in (omega (arith, e), λ s. absurd (omega (arith, s)))
number_at a (suc (suc (suc zero))) r l h = let e = ap refusal_number (same_in _ r (cond_some a.found.held.job.enabled (Some Disabled) r h).1) in (omega (arith, e), λ s. absurd (omega (arith, s)))
number_at a (suc (suc (suc (suc zero)))) r l h =
    let e = ap refusal_number (map_some (λ execution. AlreadyRunning execution) (running_of a.world a.found.held.id) r (cond_some a.found.held.job.multiple _ r h).1).2 in (omega (arith, e), λ s. absurd (omega (arith, s)))
number_at a (suc (suc (suc (suc (suc zero))))) r l h = let e = ap refusal_number (map_some (λ flaw. BadOption [] flaw) _ r h).2 in (omega (arith, e), λ s. absurd (omega (arith, s)))
number_at a (suc (suc (suc (suc (suc (suc zero)))))) r l h = let e = ap refusal_number (option_is 8 a.found.project r (site_of a) [] h).7 in (omega (arith, e), λ s. omega (arith, e))
number_at a (suc (suc (suc (suc (suc (suc (suc zero))))))) r l h = let e = ap refusal_number (selected_is a.found.held.job (chosen_of a) r h) in (omega (arith, e), λ s. omega (arith, e))
number_at a (suc (suc (suc (suc (suc (suc (suc (suc zero)))))))) r l h = let e = allowed_is (may_run_on a) (chosen_of a) (runnable_of a) r h in (omega (arith, e), λ s. omega (arith, e))
number_at a (suc (suc (suc (suc (suc (suc (suc (suc (suc zero))))))))) r l h =
    let n = length (targets_of a) * slots (steps_of a) in
    let e = ap refusal_number (same_in _ r (cond_some (nat_le n 100000) (Some (TooLarge n)) r h).1) in (omega (arith, e), λ s. omega (arith, e))
number_at a (suc (suc (suc (suc (suc (suc (suc (suc (suc (suc j)))))))))) r l h = absurd (omega (arith, l))

pub no_earlier : (a : Asked) (refusal earlier : Refusal) → IsAsked a → RunIsRefused a refusal → refusal_number earlier < refusal_number refusal → RuleHolds a earlier → ⊥
no_earlier a refusal earlier asked told low h =
    let first = first_rule (verdict.rules a) refusal (judged_err (accepted_of a) (first_refusal (verdict.rules a)) refusal (subst (λ found. verdict_on a.world a.caller a.ask a.draw found ≡ Err refusal) asked told)) in
    let at = number_at a first.0 refusal first.1 first.2 in
    quiet a first.0 (refusal_number refusal) earlier first.3 low at.0 at.1 h
