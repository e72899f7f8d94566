-- Which units may open: in each group at most its first that is neither opened nor withdrawn.
use Rattle.std.proofs.Common.{◌≡◌, ℕ, ◌+◌, ◌*◌, ◌<◌, Bool, true, false, not, ◌||◌, ◌&&◌, ◌⊎◌, inl, inr, nat_lt, List, length, sym, ap, ◌∙◌, subst, arith, refl}
use Rattle.std.specs.List.{list_all}
use Rattle.std.proofs.lemmas.Bool.{cases_Bool, cases_order, cases_lt, and_right, and_from, or_left, lt-ltb, eq-eqb, false≢true}
use Rattle.std.proofs.lemmas.Nat.{mul-add-lt, same_from_place}
use Rattle.rb_marks.specs.Units.{Outline, is_settled, before, ahead, same_group}
use Rattle.rb_flow.specs.declared.unit_state.UnitState.{UnitState}
use Rattle.rb_flow.specs.declared.group_state.GroupState.{GroupState}
use Rattle.rb_flow.specs.declared.tally.Tally.{Tally}
use Rattle.rb_flow.specs.Tally.{IsTally, IsTallyOf, is_begun}
use Rattle.rb_flow.specs.Choice.{fits, barred_by, lets_open_by, may_open_by}
use Rattle.rb_flow.specs.Order.{may_enter, bars_group, has_next, can_run}
use Rattle.rb_flow.proofs.Seats.{At, at_some, not_all, from_all}
use Rattle.rb_flow.proofs.Grid.{seat}
use Rattle.rb_flow.proofs.Groups.{passed_below, closed_at}
use Rattle.rb_flow.proofs.Barring.{same_step, barred_is, ahead_is, withdrawn_barred}

-- a unit that is not opened is not settled
pub unsettled : (p : Outline) (t : Tally) → IsTallyOf p t → (i : ℕ) (s : UnitState)
    → At t.states.items i s → s.opened ≡ false → is_settled s.outcome ≡ false
unsettled p t of i s h e = by (is_settled s.outcome) s.opened
    (from_all is_begun t.states.items i s of.begun h) e
  where
    by : (settled opened : Bool) → (not settled || opened) ≡ true → opened ≡ false
        → settled ≡ false
    by false opened b e = refl
    by true opened b e = absurd (false≢true (sym e ∙ b))

shut : (opened rest opens : Bool) → (opened ≡ false → opens ≡ false)
    → (not opened && (rest && (opened || opens))) ≡ false
shut true rest opens f = refl
shut false true opens f = f refl
shut false false opens f = refl

-- what is opened does not open
pub no_entry : (p : Outline) (all : List UnitState) (s : UnitState)
    → (s.opened ≡ false → may_open_by p all s ≡ false) → may_enter p all s ≡ false
no_entry p all s f =
    shut s.opened ((not (is_settled s.outcome) && not s.running) && fits p all s.unit.node)
    (may_open_by p all s) f

entry_by : (opened settled running fit opens : Bool) → opened ≡ false → settled ≡ false
    → (not opened && (((not settled && not running) && fit) && (opened || opens)))
    ≡ ((not running && fit) && opens)
entry_by true settled running fit opens e f = absurd (cc)
entry_by false true running fit opens e f = absurd (cc)
entry_by false false running fit opens e f = refl

pub entry : (p : Outline) (all : List UnitState) (s : UnitState) → s.opened ≡ false
    → is_settled s.outcome ≡ false → may_enter p all s ≡ (can_run p all s && may_open_by p all s)
entry p all s e f =
    entry_by s.opened (is_settled s.outcome) s.running (fits p all s.unit.node)
    (may_open_by p all s) e f

barred_shut : (p : Outline) (all : List UnitState) (s : UnitState) → barred_by p all s ≡ true
    → may_open_by p all s ≡ false
barred_shut p all s e = ap (λ b. not b && list_all (lets_open_by p all s) all) e

pub stopped_shut : (p : Outline) (all : List UnitState) (s : UnitState) (i : ℕ) (v : UnitState)
    → At all i v → lets_open_by p all s v ≡ false → may_open_by p all s ≡ false
stopped_shut p all s i v h e =
    and_right (not (barred_by p all s)) (list_all (lets_open_by p all s) all)
    (not_all (lets_open_by p all s) all i v h e)

ahead_stops : (ahead opened barred before : Bool) → ahead ≡ true → opened ≡ false
    → barred ≡ false → (before && ((not ahead || opened) || barred)) ≡ false
ahead_stops true true barred before a o b = absurd (cc)
ahead_stops true false true before a o b = absurd (cc)
ahead_stops true false false true a o b = refl
ahead_stops true false false false a o b = refl
ahead_stops false opened barred before a o b = absurd (cc)

placed : (p : Outline) (t : Tally) → IsTallyOf p t → (g k : ℕ) (s : UnitState)
    → At t.states.items (g * t.nodes + k) s → k < t.nodes → (s.unit.step ≡ g) × (s.unit.node ≡ k)
placed p t of g k s h l =
    let at = seat p t of (g * t.nodes + k) s h in
    same_from_place s.unit.step s.unit.node g k t.nodes at.node l (sym at.place)

-- the units of a group, by its number: each is at a place, and each place has one
pub in_group : (p : Outline) (t : Tally) → IsTally t → IsTallyOf p t → (g k : ℕ)
    → g < length t.groups.items → k < t.nodes
    → (s : UnitState) × At t.states.items (g * t.nodes + k) s × (s.unit.step ≡ g)
    × (s.unit.node ≡ k)
in_group p t is of g k h l =
    let within : g * t.nodes + k < length t.states.items =
    (let b = mul-add-lt g t.nodes k (length t.groups.items) h l in let size = is.size in
    let turn : t.nodes * length t.groups.items ≡ length t.groups.items * t.nodes = omega arith in
    omega (arith, b, size, turn)) in
    let r = at_some t.states.items (g * t.nodes + k) within in
    let same = placed p t of g k r.0 r.1 l in
    (r.0, r.1, same.0, same.1)

-- behind the first that is not passed none opens
pub behind_shut : (p : Outline) (t : Tally) → IsTally t → IsTallyOf p t → (i : ℕ) (s : UnitState)
    → At t.states.items i s → (gs : GroupState) → At t.groups.items s.unit.step gs
    → gs.lead < s.unit.node → may_enter p t.states.items s ≡ false
behind_shut p t is of i s h gs g l =
    no_entry p t.states.items s (λ closed. elim (cases_Bool (bars_group p t gs)) [
      | inl bars ↦ barred_shut p t.states.items s
          (barred_is p t is of i s h closed gs g
          ∙ or_left (bars_group p t gs) s.withdrawn bars)
      | inr free ↦
          let at = seat p t of i s h in
          let node = at.node in
          let r = in_group p t is of s.unit.step gs.lead at.step (omega (arith, l, node)) in
          let v = r.0 in
          let gv = subst (λ k. At t.groups.items k gs) (sym r.2) g in
          let ahead_v = closed_at p t is of (s.unit.step * t.nodes + gs.lead) v r.1 gs gv r.3 in
          let free_v = ahead_is p t is of (s.unit.step * t.nodes + gs.lead) v r.1 ahead_v gs gv
          free in
          let less : v.unit.node < s.unit.node = let e = r.3 in omega (arith, e, l) in
          let goes_ahead : ahead p.strategy v.unit s.unit ≡ true =
          and_from (same_group p.strategy v.unit s.unit) (nat_lt v.unit.node s.unit.node)
          (same_step p t of (s.unit.step * t.nodes + gs.lead) i v s r.1 h
          ∙ eq-eqb v.unit.step s.unit.step r.2)
          (lt-ltb v.unit.node s.unit.node less) in
          stopped_shut p t.states.items s (s.unit.step * t.nodes + gs.lead) v r.1
          (ahead_stops (ahead p.strategy v.unit s.unit) v.opened (barred_by p t.states.items v)
          ((not (before p.strategy v.unit s.unit) || is_settled v.outcome)
          || barred_by p t.states.items v) goes_ahead ahead_v.closed free_v)
    ])

-- a unit before it is opened or barred
pub over_below : (p : Outline) (t : Tally) → IsTally t → IsTallyOf p t → (i : ℕ) (s : UnitState)
    → At t.states.items i s → (gs : GroupState) → At t.groups.items s.unit.step gs
    → s.unit.node < gs.lead → (s.opened ≡ true) ⊎ (barred_by p t.states.items s ≡ true)
over_below p t is of i s h gs g l = elim (cases_Bool s.opened) [
  | inl done ↦ inl done
  | inr closed ↦ inr (withdrawn_barred p t.states.items s closed
      (sym (ap (λ b. b || s.withdrawn) closed) ∙ passed_below p t is of i s h gs g l))
]

over_shut : (p : Outline) (all : List UnitState) (s : UnitState)
    → (s.opened ≡ true) ⊎ (barred_by p all s ≡ true) → may_enter p all s ≡ false
over_shut p all s over = no_entry p all s (λ closed. elim over [
  | inl done ↦ absurd (false≢true (sym closed ∙ done))
  | inr bars ↦ barred_shut p all s bars
])

-- none before it opens
pub below_shut : (p : Outline) (t : Tally) → IsTally t → IsTallyOf p t → (i : ℕ) (s : UnitState)
    → At t.states.items i s → (gs : GroupState) → At t.groups.items s.unit.step gs
    → s.unit.node < gs.lead → may_enter p t.states.items s ≡ false
below_shut p t is of i s h gs g l =
    over_shut p t.states.items s (over_below p t is of i s h gs g l)

pub beside_shut : (p : Outline) (t : Tally) → IsTally t → IsTallyOf p t → (i : ℕ) (s : UnitState)
    → At t.states.items i s → (gs : GroupState) → At t.groups.items s.unit.step gs
    → (s.unit.node ≡ gs.lead → ⊥) → may_enter p t.states.items s ≡ false
beside_shut p t is of i s h gs g f = elim (cases_order s.unit.node gs.lead) [
  | inl same ↦ absurd (f same)
  | inr other ↦ elim other [
    | inl less ↦ below_shut p t is of i s h gs g less
    | inr more ↦ behind_shut p t is of i s h gs g more
  ]
]

no_next : (lead n node : ℕ) (bars : Bool) → (nat_lt lead n && not bars) ≡ false → node < n
    → (node < lead) ⊎ (bars ≡ true)
no_next lead n node true e h = inr refl
no_next lead n node false e h = elim (cases_lt node lead) [
  | inl less ↦ inl less
  | inr more ↦ absurd (false≢true (sym (and_parts_false (nat_lt lead n) e)
      ∙ lt-ltb lead n (omega (arith, more, h))))
]
  where
    and_parts_false : (a : Bool) → (a && true) ≡ false → a ≡ false
    and_parts_false true e = e
    and_parts_false false e = refl

-- a unit of a group that has no next is opened or barred
pub over_if : (p : Outline) (t : Tally) → IsTally t → IsTallyOf p t → (i : ℕ) (s : UnitState)
    → At t.states.items i s → (gs : GroupState) → At t.groups.items s.unit.step gs
    → has_next p t gs ≡ false → (s.opened ≡ true) ⊎ (barred_by p t.states.items s ≡ true)
over_if p t is of i s h gs g e =
    elim (no_next gs.lead t.nodes s.unit.node (bars_group p t gs) e (seat p t of i s h).node) [
      | inl less ↦ over_below p t is of i s h gs g less
      | inr bars ↦ elim (cases_Bool s.opened) [
        | inl done ↦ inl done
        | inr closed ↦ inr (barred_is p t is of i s h closed gs g
            ∙ or_left (bars_group p t gs) s.withdrawn bars)
      ]
    ]

pub group_shut : (p : Outline) (t : Tally) → IsTally t → IsTallyOf p t → (i : ℕ) (s : UnitState)
    → At t.states.items i s → (gs : GroupState) → At t.groups.items s.unit.step gs
    → has_next p t gs ≡ false → may_enter p t.states.items s ≡ false
group_shut p t is of i s h gs g e =
    over_shut p t.states.items s (over_if p t is of i s h gs g e)
