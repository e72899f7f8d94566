-- Whether the first unit of a group that is neither opened nor withdrawn may open.
use Rattle.std.proofs.Common.{◌≡◌, ℕ, ◌+◌, ◌*◌, ◌<◌, ◌≤◌, Bool, true, false, not, ◌||◌, ◌&&◌, ◌⊎◌, inl, inr, suc, nat_eq, nat_lt, length, get_or, sym, ap, ◌∙◌, subst, arith, refl}
use Rattle.std.specs.List.{list_all}
use Rattle.std.proofs.lemmas.Bool.{cases_Bool, cases_lt, and_parts, and_from, or_left, or_right, or_cases, or_parts, not-true, not_from_false, lt-ltb, eq-eqb, eqb-true, ltb-true, false≢true, both_ways}
use Rattle.std.proofs.lemmas.Nat.{mul-le}
use Rattle.rb_marks.specs.Units.{Outline, is_settled, before, ahead, same_group}
use Rattle.rb_marks.specs.declared.plan.Strategy.{Strategy}
use Rattle.rb_marks.specs.declared.plan.Strategy.TheVariants.{NodeFirst, Sequential, Parallel}
use Rattle.rb_marks.specs.declared.units.WorkUnit.{WorkUnit}
use Rattle.rb_flow.specs.declared.unit_state.UnitState.{UnitState}
use Rattle.rb_flow.specs.declared.group_state.GroupState.{GroupState}
use Rattle.rb_flow.specs.declared.tally.Tally.{Tally}
use Rattle.rb_flow.specs.Tally.{IsTally, IsTallyOf, is_in_work}
use Rattle.rb_flow.specs.Choice.{barred_by, lets_open_by, may_open_by}
use Rattle.rb_flow.specs.Order.{passes_at, may_enter, bars_group, has_next, is_sequential, can_run, is_lower, is_held, enters}
use Rattle.rb_flow.proofs.Seats.{At, at_less, at_some, at_same, at_get, at_get_or, at_passes, passing, all_at}
use Rattle.rb_flow.proofs.Grid.{seat, tiers_rise}
use Rattle.rb_flow.proofs.Groups.{closed_at}
use Rattle.rb_flow.proofs.Barring.{step_below, same_step, ahead_is, opened_free}
use Rattle.rb_flow.proofs.InWork.{is_place, at_work, places_rise}
use Rattle.rb_flow.proofs.Entering.{unsettled, no_entry, entry, stopped_shut, over_below, over_if, in_group}

-- the places before this index lie below the limit, and the others do not
pub record IsCursor (t : Tally) (limit at : ℕ) : Type 0 where
  pub within : at ≤ length t.places.items
  pub below : (j q : ℕ) → j < at → At t.places.items j q → q < limit
  pub above : (j q : ℕ) → at ≤ j → At t.places.items j q → limit ≤ q

-- no group before this one has a next unit
abbrev pub NoneNext : Outline → Tally → ℕ → Type 0
NoneNext p t g = (h : ℕ) (hs : GroupState) → h < g → At t.groups.items h hs
    → has_next p t hs ≡ false

-- what is known of the first unit of a group that is not passed
pub record IsNext (p : Outline) (t : Tally) (g : ℕ) (gs : GroupState) (w : UnitState) (i at end : ℕ)
    : Type 0 where
  pub is : IsTally t
  pub of : IsTallyOf p t
  pub cursor : IsCursor t (g * t.nodes) at
  pub end_is : end ≡ g * t.nodes + t.nodes
  pub group : At t.groups.items g gs
  pub next : has_next p t gs ≡ true
  pub sequence : is_sequential p.strategy ≡ true → NoneNext p t g
  pub here : At t.states.items i w
  pub step : w.unit.step ≡ g
  pub node : w.unit.node ≡ gs.lead

before_cases : (strategy : Strategy) (u w : WorkUnit)
    → same_group strategy u w ≡ nat_eq u.step w.step → before strategy u w ≡ true
    → ((is_sequential strategy ≡ true) × (u.step < w.step))
    ⊎ ((u.step ≡ w.step) × (u.tier < w.tier))
before_cases NodeFirst u w g e =
    inr (eqb-true u.step w.step (sym g), ltb-true u.tier w.tier e)
before_cases Sequential u w g e =
    elim (or_cases (nat_lt u.step w.step) (nat_eq u.step w.step && nat_lt u.tier w.tier) e) [
      | inl less ↦ inl (refl, ltb-true u.step w.step less)
      | inr same ↦ let r = and_parts (nat_eq u.step w.step) (nat_lt u.tier w.tier) same in
          inr (eqb-true u.step w.step r.0, ltb-true u.tier w.tier r.1)
    ]
before_cases Parallel u w g e =
    let r = and_parts (nat_eq u.step w.step) (nat_lt u.tier w.tier) e in
    inr (eqb-true u.step w.step r.0, ltb-true u.tier w.tier r.1)

before_lower : (strategy : Strategy) (u w : WorkUnit) → u.step ≡ w.step → u.tier < w.tier
    → before strategy u w ≡ true
before_lower NodeFirst u w e l = lt-ltb u.tier w.tier l
before_lower Sequential u w e l =
    or_right (nat_lt u.step w.step) (nat_eq u.step w.step && nat_lt u.tier w.tier)
    (and_from (nat_eq u.step w.step) (nat_lt u.tier w.tier) (eq-eqb u.step w.step e)
    (lt-ltb u.tier w.tier l))
before_lower Parallel u w e l =
    and_from (nat_eq u.step w.step) (nat_lt u.tier w.tier) (eq-eqb u.step w.step e)
    (lt-ltb u.tier w.tier l)

before_earlier : (strategy : Strategy) (u w : WorkUnit) → is_sequential strategy ≡ true
    → u.step < w.step → before strategy u w ≡ true
before_earlier NodeFirst u w e l = absurd (false≢true e)
before_earlier Sequential u w e l =
    or_left (nat_lt u.step w.step) (nat_eq u.step w.step && nat_lt u.tier w.tier)
    (lt-ltb u.step w.step l)
before_earlier Parallel u w e l = absurd (false≢true e)

before_stops : (before settled barred ahead : Bool) → before ≡ true → settled ≡ false
    → barred ≡ false → (((not before || settled) || barred) && ahead) ≡ false
before_stops true true barred ahead a o b = absurd (cc)
before_stops true false true ahead a o b = absurd (cc)
before_stops true false false ahead a o b = refl
before_stops false settled barred ahead a o b = absurd (cc)

work_parts : (opened settled : Bool) → (opened && not settled) ≡ true
    → (opened ≡ true) × (settled ≡ false)
work_parts true false e = (refl, refl)
work_parts true true e = absurd (cc)
work_parts false settled e = absurd (cc)

-- what is in work, and before it, holds it up
held_by : (p : Outline) (t : Tally) (w : UnitState) (i : ℕ) (v : UnitState)
    → At t.states.items i v → is_in_work v ≡ true → before p.strategy v.unit w.unit ≡ true
    → may_open_by p t.states.items w ≡ false
held_by p t w i v h works e =
    let parts = work_parts v.opened (is_settled v.outcome) works in
    stopped_shut p t.states.items w i v h
    (before_stops (before p.strategy v.unit w.unit) (is_settled v.outcome)
    (barred_by p t.states.items v)
    ((not (ahead p.strategy v.unit w.unit) || v.opened) || barred_by p t.states.items v) e
    parts.1 (opened_free p t.states.items v parts.0))

-- the step of what lies in the group
pub step_of : (s k n g i : ℕ) → i ≡ s * n + k → k < n → g * n ≤ i → i < g * n + n → s ≡ g
step_of s k n g i e h low high = elim (cases_lt s g) [
  | inl less ↦ absurd (let b = mul-le (suc s) n g n less (omega arith) in
      let m : suc s * n ≡ s * n + n = omega arith in omega (arith, b, m, e, h, low))
  | inr more ↦ elim (cases_lt g s) [
    | inl less ↦ absurd (let b = mul-le (suc g) n s n less (omega arith) in
        let m : suc g * n ≡ g * n + n = omega arith in omega (arith, b, m, e, high))
    | inr other ↦ omega (arith, more, other)
  ]
]

-- something in work of an earlier step
held_earlier : (p : Outline) (t : Tally) (g : ℕ) (gs : GroupState) (w : UnitState) (i at end : ℕ)
    → IsNext p t g gs w i at end → is_sequential p.strategy ≡ true → 0 < at
    → may_open_by p t.states.items w ≡ false
held_earlier p t g gs w i at end x e l =
    let cursor = x.cursor in let within = cursor.within in
    let q = get_or t.places.items 0 0 in
    let first = at_get_or t.places.items 0 0 (omega (arith, l, within)) in
    let v = at_work t x.is 0 q first in
    let seat_v = seat p t x.of q v.0 v.1 in
    let less = step_below v.0.unit.step v.0.unit.node t.nodes g q seat_v.place
    (cursor.below 0 q l first) in
    held_by p t w q v.0 v.1 v.2
    (before_earlier p.strategy v.0.unit w.unit e (let s = x.step in omega (arith, less, s)))

-- the first in work of its group is of a lower tier
held_lower : (p : Outline) (t : Tally) (g : ℕ) (gs : GroupState) (w : UnitState) (i at end : ℕ)
    → IsNext p t g gs w i at end → is_lower t at end w.unit.tier ≡ true
    → may_open_by p t.states.items w ≡ false
held_lower p t g gs w i at end x e =
    let cursor = x.cursor in
    let q = get_or t.places.items at 0 in
    let test = λ (s : UnitState). nat_lt s.unit.tier w.unit.tier in
    let parts = and_parts (nat_lt at (length t.places.items) && nat_lt q end)
    (passes_at test t.states.items q) e in
    let front = and_parts (nat_lt at (length t.places.items)) (nat_lt q end) parts.0 in
    let here = at_get_or t.places.items at 0 (ltb-true at (length t.places.items) front.0) in
    let v = at_work t x.is at q here in
    let passed = passing test t.states.items q parts.1 in
    let same : passed.0 ≡ v.0 = at_same t.states.items q passed.0 v.0 passed.1 v.1 in
    let lower : v.0.unit.tier < w.unit.tier =
    ltb-true v.0.unit.tier w.unit.tier (ap test (sym same) ∙ passed.2) in
    let seat_v = seat p t x.of q v.0 v.1 in
    let high : q < g * t.nodes + t.nodes = subst (λ k. q < k) x.end_is (ltb-true q end front.1) in
    let step = step_of v.0.unit.step v.0.unit.node t.nodes g q seat_v.place seat_v.node
    (cursor.above at q (omega arith) here) high in
    held_by p t w q v.0 v.1 v.2
    (before_lower p.strategy v.0.unit w.unit (step ∙ sym x.step) lower)

lets : (before settled barred : Bool) → (before ≡ true → (settled || barred) ≡ true)
    → ((not before || settled) || barred) ≡ true
lets true settled barred f = f refl
lets false settled barred f = refl

-- what is of a lower tier lies on an earlier node, so it is opened or barred
over_lower : (p : Outline) (t : Tally) (g : ℕ) (gs : GroupState) (w : UnitState) (i at end : ℕ)
    → IsNext p t g gs w i at end → (k : ℕ) (s : UnitState) → At t.states.items k s
    → s.unit.step ≡ w.unit.step → s.unit.tier < w.unit.tier
    → (s.opened ≡ true) ⊎ (barred_by p t.states.items s ≡ true)
over_lower p t g gs w i at end x k s h step tier =
    let seat_s = seat p t x.of k s h in
    let seat_w = seat p t x.of i w x.here in
    let of = x.of in
    let node : s.unit.node < w.unit.node = elim (cases_lt s.unit.node w.unit.node) [
      | inl less ↦ less
      | inr more ↦ absurd (
          let b = tiers_rise p.tiers w.unit.node s.unit.node w.unit.tier s.unit.tier of.tiers
          seat_w.tier seat_s.tier more in omega (arith, b, tier))
    ] in
    over_below p t x.is x.of k s h gs
    (subst (λ n. At t.groups.items n gs) (sym (step ∙ x.step)) x.group)
    (let lead = x.node in omega (arith, node, lead))

-- a unit of an earlier step, where nothing is held up by one
over_earlier : (p : Outline) (t : Tally) (g : ℕ) (gs : GroupState) (w : UnitState) (i at end : ℕ)
    → IsNext p t g gs w i at end → is_sequential p.strategy ≡ true → (0 < at → ⊥) → (k : ℕ)
    (s : UnitState) → At t.states.items k s → is_settled s.outcome ≡ false → s.unit.step < g
    → barred_by p t.states.items s ≡ true
over_earlier p t g gs w i at end x e free k s h un less =
    let seat_s = seat p t x.of k s h in
    let hs = at_some t.groups.items s.unit.step seat_s.step in
    elim (over_if p t x.is x.of k s h hs.0 hs.1 (x.sequence e s.unit.step hs.0 less hs.1)) [
      | inl opened ↦
          let r = is_place t x.is k s h (and_from s.opened (not (is_settled s.outcome)) opened
          (not_from_false (is_settled s.outcome) un)) in
          let cursor = x.cursor in
          elim (cases_lt r.0 at) [
            | inl before ↦ absurd (free (omega (arith, before)))
            | inr after ↦ absurd (
                let above = cursor.above r.0 k after r.1 in
                let place = seat_s.place in let node = seat_s.node in
                let b = mul-le (suc s.unit.step) t.nodes g t.nodes less (omega arith) in
                let m : suc s.unit.step * t.nodes ≡ s.unit.step * t.nodes + t.nodes = omega arith
                in omega (arith, above, place, node, b, m))
          ]
      | inr bars ↦ bars
    ]

first_lower : (p : Outline) (t : Tally) → IsTallyOf p t → (g at end tier q k : ℕ)
    (s v : UnitState) → at < length t.places.items → At t.places.items at q
    → At t.states.items q v → At t.states.items k s → s.unit.tier < tier → g * t.nodes ≤ q → q ≤ k
    → k ≡ g * t.nodes + s.unit.node → q < end → is_lower t at end tier ≡ true
first_lower p t of g at end tier q k s v l here h_v h_s lower low le place in_end =
    let seat_v = seat p t of q v h_v in
    let seat_s = seat p t of k s h_s in
    let node_s = seat_s.node in
    let step = step_of v.unit.step v.unit.node t.nodes g q seat_v.place seat_v.node low
    (omega (arith, le, place, node_s)) in
    let row : v.unit.step * t.nodes ≡ g * t.nodes = ap (λ n. n * t.nodes) step in
    let place_v = seat_v.place in
    let tiers = tiers_rise p.tiers v.unit.node s.unit.node v.unit.tier s.unit.tier of.tiers
    seat_v.tier seat_s.tier (omega (arith, row, place_v, le, place)) in
    let first : get_or t.places.items at 0 ≡ q = at_get t.places.items at q 0 here in
    let test = λ (u : UnitState). nat_lt u.unit.tier tier in
    and_from _ _
    (and_from _ _ (lt-ltb at (length t.places.items) l)
    (ap (λ n. nat_lt n end) first ∙ lt-ltb q end in_end))
    (ap (passes_at test t.states.items) first ∙ at_passes test t.states.items q v h_v
    ∙ lt-ltb v.unit.tier tier (omega (arith, tiers, lower)))

-- a unit of the group in work and of a lower tier shows that the first in work is
lower_works : (p : Outline) (t : Tally) (g : ℕ) (gs : GroupState) (w : UnitState) (i at end : ℕ)
    → IsNext p t g gs w i at end → (k : ℕ) (s : UnitState) → At t.states.items k s
    → is_in_work s ≡ true → s.unit.step ≡ w.unit.step → s.unit.tier < w.unit.tier
    → is_lower t at end w.unit.tier ≡ true
lower_works p t g gs w i at end x k s h works step tier =
    let seat_s = seat p t x.of k s h in
    let r = is_place t x.is k s h works in
    let cursor = x.cursor in
    let row : s.unit.step * t.nodes ≡ g * t.nodes = ap (λ n. n * t.nodes) (step ∙ x.step) in
    let place : k ≡ g * t.nodes + s.unit.node =
    seat_s.place ∙ ap (λ n. n + s.unit.node) row in
    let later : at ≤ r.0 = elim (cases_lt r.0 at) [
      | inl less ↦ absurd (let b = cursor.below r.0 k less r.1 in omega (arith, b, place))
      | inr more ↦ more
    ] in
    let length_r = at_less t.places.items r.0 k r.1 in
    let l : at < length t.places.items = omega (arith, later, length_r) in
    let q = get_or t.places.items at 0 in
    let here = at_get_or t.places.items at 0 l in
    let first : q ≤ k = elim (cases_lt at r.0) [
      | inl less ↦ let b = places_rise t x.is at r.0 q k here r.1 less in omega (arith, b)
      | inr more ↦
          let same : r.0 ≡ at = omega (arith, later, more) in
          let one = at_same t.places.items at q k here
          (subst (λ j. At t.places.items j k) same r.1) in omega (arith, one)
    ] in
    let node = seat_s.node in
    let in_end : q < end = let e = x.end_is in omega (arith, first, place, node, e) in
    let v = at_work t x.is at q here in
    first_lower p t x.of g at end w.unit.tier q k s v.0 l here v.1 h tier
    (cursor.above at q (omega arith) here) first place in_end

-- what is to be settled before it is settled, or barred
over_before : (p : Outline) (t : Tally) (g : ℕ) (gs : GroupState) (w : UnitState) (i at end : ℕ)
    → IsNext p t g gs w i at end → is_held p t at end w.unit.tier ≡ false → (k : ℕ)
    (s : UnitState) → At t.states.items k s → before p.strategy s.unit w.unit ≡ true
    → (is_settled s.outcome || barred_by p t.states.items s) ≡ true
over_before p t g gs w i at end x free k s h e =
    let parts = or_parts (is_sequential p.strategy && nat_lt 0 at)
    (is_lower t at end w.unit.tier) free in
    elim (cases_Bool (is_settled s.outcome)) [
      | inl done ↦ or_left (is_settled s.outcome) (barred_by p t.states.items s) done
      | inr un ↦
          elim (before_cases p.strategy s.unit w.unit (same_step p t x.of k i s w h x.here) e) [
            | inl sooner ↦ or_right (is_settled s.outcome) (barred_by p t.states.items s)
                (over_earlier p t g gs w i at end x sooner.0
                (λ some. both_ways (is_sequential p.strategy && nat_lt 0 at) parts.0
                (and_from (is_sequential p.strategy) (nat_lt 0 at) sooner.0 (lt-ltb 0 at some)))
                k s h un (let a = sooner.1 in let b = x.step in omega (arith, a, b)))
            | inr lower ↦ elim (over_lower p t g gs w i at end x k s h lower.0 lower.1) [
              | inl opened ↦ absurd (both_ways (is_lower t at end w.unit.tier) parts.1
                  (lower_works p t g gs w i at end x k s h
                  (and_from s.opened (not (is_settled s.outcome)) opened
                  (not_from_false (is_settled s.outcome) un)) lower.0 lower.1))
              | inr bars ↦ or_right (is_settled s.outcome) (barred_by p t.states.items s) bars
            ]
          ]
    ]

-- what is to be opened before it is opened, or barred
over_ahead : (p : Outline) (t : Tally) (g : ℕ) (gs : GroupState) (w : UnitState) (i at end : ℕ)
    → IsNext p t g gs w i at end → (k : ℕ) (s : UnitState) → At t.states.items k s
    → ahead p.strategy s.unit w.unit ≡ true
    → (s.opened || barred_by p t.states.items s) ≡ true
over_ahead p t g gs w i at end x k s h e =
    let parts = and_parts (same_group p.strategy s.unit w.unit)
    (nat_lt s.unit.node w.unit.node) e in
    let step : s.unit.step ≡ w.unit.step = eqb-true s.unit.step w.unit.step
    (sym (same_step p t x.of k i s w h x.here) ∙ parts.0) in
    let less = ltb-true s.unit.node w.unit.node parts.1 in
    elim (over_below p t x.is x.of k s h gs
    (subst (λ n. At t.groups.items n gs) (sym (step ∙ x.step)) x.group)
    (let lead = x.node in omega (arith, less, lead))) [
      | inl opened ↦ or_left s.opened (barred_by p t.states.items s) opened
      | inr bars ↦ or_right s.opened (barred_by p t.states.items s) bars
    ]

next_free : (p : Outline) (t : Tally) (g : ℕ) (gs : GroupState) (w : UnitState) (i at end : ℕ)
    → IsNext p t g gs w i at end → (w.opened ≡ false) × (barred_by p t.states.items w ≡ false)
next_free p t g gs w i at end x =
    let group = subst (λ n. At t.groups.items n gs) (sym x.step) x.group in
    let is_ahead = closed_at p t x.is x.of i w x.here gs group x.node in (
      is_ahead.closed,
      ahead_is p t x.is x.of i w x.here is_ahead gs group
          (not-true (bars_group p t gs)
          (and_parts (nat_lt gs.lead t.nodes) (not (bars_group p t gs)) x.next).1),
    )

opens_unless : (p : Outline) (t : Tally) (g : ℕ) (gs : GroupState) (w : UnitState) (i at end : ℕ)
    → IsNext p t g gs w i at end
    → may_open_by p t.states.items w ≡ not (is_held p t at end w.unit.tier)
opens_unless p t g gs w i at end x = elim (cases_Bool (is_held p t at end w.unit.tier)) [
  | inl held ↦ elim (or_cases (is_sequential p.strategy && nat_lt 0 at)
      (is_lower t at end w.unit.tier) held) [
        | inl sooner ↦ let r = and_parts (is_sequential p.strategy) (nat_lt 0 at) sooner in
            held_earlier p t g gs w i at end x r.0 (ltb-true 0 at r.1) ∙ ap not (sym held)
        | inr lower ↦ held_lower p t g gs w i at end x lower ∙ ap not (sym held)
      ]
  | inr free ↦
      and_from (not (barred_by p t.states.items w))
      (list_all (lets_open_by p t.states.items w) t.states.items)
      (not_from_false (barred_by p t.states.items w) (next_free p t g gs w i at end x).1)
      (all_at (lets_open_by p t.states.items w) t.states.items
      (λ k s h. and_from
      ((not (before p.strategy s.unit w.unit) || is_settled s.outcome)
      || barred_by p t.states.items s)
      ((not (ahead p.strategy s.unit w.unit) || s.opened) || barred_by p t.states.items s)
      (lets (before p.strategy s.unit w.unit) (is_settled s.outcome)
      (barred_by p t.states.items s) (over_before p t g gs w i at end x free k s h))
      (lets (ahead p.strategy s.unit w.unit) s.opened (barred_by p t.states.items s)
      (over_ahead p t g gs w i at end x k s h))))
      ∙ ap not (sym free)
]

-- the first unit of a group that is not passed opens where nothing in work holds it up
pub next_enters : (p : Outline) (t : Tally) (g : ℕ) (gs : GroupState) (w : UnitState)
    (i at end : ℕ) → IsNext p t g gs w i at end
    → may_enter p t.states.items w ≡ enters p t at end w
next_enters p t g gs w i at end x =
    let closed = (next_free p t g gs w i at end x).0 in
    entry p t.states.items w closed (unsettled p t x.of i w x.here closed)
    ∙ ap (λ b. can_run p t.states.items w && b) (opens_unless p t g gs w i at end x)

-- where steps go one after another, none opens behind a group with a next unit
pub later_shut : (p : Outline) (t : Tally) → IsTally t → IsTallyOf p t
    → is_sequential p.strategy ≡ true → (g : ℕ) (gs : GroupState) → At t.groups.items g gs
    → has_next p t gs ≡ true → (k : ℕ) (s : UnitState) → At t.states.items k s → g < s.unit.step
    → may_enter p t.states.items s ≡ false
later_shut p t is of seq g gs at next k s h later =
    let parts = and_parts (nat_lt gs.lead t.nodes) (not (bars_group p t gs)) next in
    let v = in_group p t is of g gs.lead (at_less t.groups.items g gs at)
    (ltb-true gs.lead t.nodes parts.0) in
    let group = subst (λ n. At t.groups.items n gs) (sym v.2) at in
    let i = g * t.nodes + gs.lead in
    let is_ahead = closed_at p t is of i v.0 v.1 gs group v.3 in
    let free = ahead_is p t is of i v.0 v.1 is_ahead gs group
    (not-true (bars_group p t gs) parts.1) in
    no_entry p t.states.items s (λ e. stopped_shut p t.states.items s i v.0 v.1
    (before_stops (before p.strategy v.0.unit s.unit) (is_settled v.0.outcome)
    (barred_by p t.states.items v.0)
    ((not (ahead p.strategy v.0.unit s.unit) || v.0.opened) || barred_by p t.states.items v.0)
    (before_earlier p.strategy v.0.unit s.unit seq (let b = v.2 in omega (arith, b, later)))
    (unsettled p t of i v.0 v.1 is_ahead.closed) free))
