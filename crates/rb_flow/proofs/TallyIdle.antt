-- What is counted of idle units: nothing.
use Rattle.std.proofs.Common.{◌≡◌, ℕ, ◌+◌, Bool, true, false, not, ◌&&◌, cond, nat_eq, nat_lt, List, [], ◌∷◌, take, drop, replicate, count_by, mul-zero, arith, refl, ap, sym, ◌∙◌, zero, suc}
use Rattle.std.specs.List.{list_all}
use Rattle.std.proofs.lemmas.List.{take-append-drop}
use Rattle.std.proofs.lemmas.List.Folds.{list_all-append, sum_by-replicate}
use Rattle.std.proofs.lemmas.Bool.{and_parts, not-true, or_from}
use Rattle.std.proofs.Math.Bool.{and-false}
use Rattle.rb_marks.specs.Units.{is_bad, is_settled}
use Rattle.rb_marks.specs.First.{is_good}
use Rattle.rb_marks.specs.declared.mark.StepResult.{StepResult}
use Rattle.rb_marks.specs.declared.mark.StepResult.TheVariants.{Undone, Good, Bad}
use Rattle.rb_marks.proofs.Counts.{count_cons}
use Rattle.rb_flow.specs.Tally.{is_in_work, is_idle, places_from, node_work, works_from, busy_count, is_passed, leading, group_of, groups_of}
use Rattle.rb_flow.specs.declared.unit_state.UnitState.{UnitState}
use Rattle.rb_flow.specs.declared.group_state.GroupState.{GroupState}
use Rattle.rb_flow.proofs.TallyWorks.{works_at}

idle_parts : (s : UnitState) → is_idle s ≡ true
    → (s.opened ≡ false) × (s.running ≡ false) × (is_settled s.outcome ≡ false)
    × (s.withdrawn ≡ false)
idle_parts s e =
    let both = and_parts (not s.opened && not s.running)
    (not (is_settled s.outcome) && not s.withdrawn) e in
    let begun = and_parts (not s.opened) (not s.running) both.0 in
    let stays = and_parts (not (is_settled s.outcome)) (not s.withdrawn) both.1 in (
      not-true s.opened begun.0,
      not-true s.running begun.1,
      not-true (is_settled s.outcome) stays.0,
      not-true s.withdrawn stays.1,
    )

idle_ahead : (s : UnitState) → is_idle s ≡ true → is_passed s ≡ false
idle_ahead s e =
    let parts = idle_parts s e in or_from s.opened s.withdrawn parts.0 parts.3

unsettled_bad : (r : StepResult) → is_settled r ≡ false → is_bad r ≡ false
unsettled_bad Undone e = refl
unsettled_bad Good e = refl
unsettled_bad Bad e = absurd (let k : true ≡ false = e in cc)

unsettled_good : (r : StepResult) → is_settled r ≡ false → is_good r ≡ false
unsettled_good Undone e = refl
unsettled_good Bad e = refl
unsettled_good Good e = absurd (let k : true ≡ false = e in cc)

idle_bad : (s : UnitState) → is_idle s ≡ true → is_bad s.outcome ≡ false
idle_bad s e = unsettled_bad s.outcome (idle_parts s e).2

idle_good : (s : UnitState) → is_idle s ≡ true → is_good s.outcome ≡ false
idle_good s e = unsettled_good s.outcome (idle_parts s e).2

idle_running : (s : UnitState) → is_idle s ≡ true → s.running ≡ false
idle_running s e = (idle_parts s e).1

idle_work : (s : UnitState) → is_idle s ≡ true → is_in_work s ≡ false
idle_work s e = ap (λ b. b && not (is_settled s.outcome)) (idle_parts s e).0

-- none of them counts
none_counted : (f : UnitState → Bool) → ((s : UnitState) → is_idle s ≡ true → f s ≡ false)
    → (xs : List UnitState) → list_all is_idle xs ≡ true → count_by f xs ≡ 0
none_counted f none [] e = refl
none_counted f none (x ∷ xs) e =
    let parts = and_parts (is_idle x) (list_all is_idle xs) e in
    omega (
      arith,
      count_cons f x xs,
      ap {B = ℕ} (λ b. cond b 1 0) (none x parts.0),
      none_counted f none xs parts.1,
    )

pub none_bad : (xs : List UnitState) → list_all is_idle xs ≡ true
    → 0 ≡ count_by (λ s. is_bad s.outcome) xs
none_bad xs e = sym (none_counted (λ s. is_bad s.outcome) idle_bad xs e)

pub none_good : (xs : List UnitState) → list_all is_idle xs ≡ true
    → 0 ≡ count_by (λ s. is_good s.outcome) xs
none_good xs e = sym (none_counted (λ s. is_good s.outcome) idle_good xs e)

pub none_running : (xs : List UnitState) → list_all is_idle xs ≡ true
    → 0 ≡ count_by (λ s. s.running) xs
none_running xs e = sym (none_counted (λ s. s.running) idle_running xs e)

pub no_places : (b : ℕ) (xs : List UnitState) → list_all is_idle xs ≡ true
    → [] ≡ places_from b xs
no_places b [] e = refl
no_places b (x ∷ xs) e =
    let parts = and_parts (is_idle x) (list_all is_idle xs) e in
    no_places (b + 1) xs parts.1
    ∙ ap (λ w. cond w (b ∷ places_from (b + 1) xs) (places_from (b + 1) xs))
    (sym (idle_work x parts.0))

no_work : (xs : List UnitState) (node : ℕ) → list_all is_idle xs ≡ true → node_work xs node ≡ 0
no_work xs node e =
    none_counted (works_at node)
    (λ s idle. ap (λ b. nat_eq s.unit.node node && b) (idle_work s idle)
    ∙ and-false (nat_eq s.unit.node node)) xs e

pub no_works : (xs : List UnitState) (a n : ℕ) → list_all is_idle xs ≡ true
    → replicate n 0 ≡ works_from xs a n
no_works xs a zero e = refl
no_works xs a (suc n) e =
    ap (λ w. w ∷ replicate n 0) (sym (no_work xs a e))
    ∙ ap (λ ws. node_work xs a ∷ ws) (no_works xs (a + 1) n e)

pub none_busy : (n : ℕ) → 0 ≡ busy_count (replicate n 0)
none_busy n = sym (sum_by-replicate (λ k. cond (nat_lt 0 k) 1 0) n 0 ∙ mul-zero n)

no_lead : (xs : List UnitState) → list_all is_idle xs ≡ true → leading xs ≡ 0
no_lead [] e = refl
no_lead (x ∷ xs) e =
    ap {B = ℕ} (λ b. cond b (leading xs + 1) 0)
    (idle_ahead x (and_parts (is_idle x) (list_all is_idle xs) e).0)

no_group : (xs : List UnitState) → list_all is_idle xs ≡ true
    → record { lead = 0; bad = 0 } ≡ group_of xs
no_group xs e =
    ap {B = GroupState} (λ n. record { lead = n; bad = 0 }) (sym (no_lead xs e))
    ∙ ap {B = GroupState} (λ n. record { lead = leading xs; bad = n }) (none_bad xs e)

idle_cut : (n : ℕ) (xs : List UnitState) → list_all is_idle xs ≡ true
    → (list_all is_idle (take n xs) ≡ true) × (list_all is_idle (drop n xs) ≡ true)
idle_cut n xs e =
    and_parts (list_all is_idle (take n xs)) (list_all is_idle (drop n xs))
    (sym (list_all-append is_idle (take n xs) (drop n xs))
    ∙ ap (list_all is_idle) (take-append-drop n xs) ∙ e)

pub no_groups : (nodes n : ℕ) (xs : List UnitState) → list_all is_idle xs ≡ true
    → replicate n (record { lead = 0; bad = 0 }) ≡ groups_of nodes n xs
no_groups nodes zero xs e = refl
no_groups nodes (suc n) xs e =
    let cut = idle_cut nodes xs e in
    ap {B = List GroupState} (λ g. g ∷ replicate n (record { lead = 0; bad = 0 }))
    (no_group (take nodes xs) cut.0)
    ∙ ap (λ gs. group_of (take nodes xs) ∷ gs) (no_groups nodes n (drop nodes xs) cut.1)
