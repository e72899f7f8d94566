-- Whether a unit that is not opened is barred, by what is counted of its group.
use Rattle.std.proofs.Common.{◌≡◌, ℕ, ◌+◌, ◌*◌, ◌<◌, ◌≤◌, Bool, true, false, not, ◌&&◌, ◌||◌, inl, inr, nat_eq, nat_lt, List, take, drop, count_by, sym, ap, ◌∙◌, arith, refl}
use Rattle.std.specs.List.{list_any}
use Rattle.std.proofs.lemmas.Bool.{eq-eqb, ne_eqb, cases_lt, and_from, or_from, or_right, not_from_false}
use Rattle.std.proofs.lemmas.Nat.{mul-le, same_from_place}
use Rattle.rb_marks.specs.Units.{Outline, is_node_first, same_group, bars, is_bad}
use Rattle.rb_marks.specs.declared.plan.Strategy.{Strategy}
use Rattle.rb_marks.specs.declared.plan.Strategy.TheVariants.{NodeFirst, Sequential, Parallel}
use Rattle.rb_marks.specs.declared.units.WorkUnit.{WorkUnit}
use Rattle.rb_flow.specs.declared.unit_state.UnitState.{UnitState}
use Rattle.rb_flow.specs.declared.group_state.GroupState.{GroupState}
use Rattle.rb_flow.specs.declared.tally.Tally.{Tally}
use Rattle.rb_flow.specs.Tally.{IsTally, IsTallyOf, group_count}
use Rattle.rb_flow.specs.Choice.{barred_by}
use Rattle.rb_flow.specs.Order.{bars_group}
use Rattle.rb_flow.proofs.Seats.{At, at_take, at_drop, any_alike}
use Rattle.rb_flow.proofs.Grid.{seat}
use Rattle.rb_flow.proofs.Parts.{any_and, some_counted, more_beside, in_parts, three_counts, three_any}
use Rattle.rb_flow.proofs.Groups.{chunk, group_is, IsAhead}

-- units lie step by step
pub step_below : (s k n g i : ℕ) → i ≡ s * n + k → i < g * n → s < g
step_below s k n g i e l = elim (cases_lt s g) [
  | inl less ↦ less
  | inr more ↦ absurd (omega (arith, e, l, mul-le g n s n more (omega arith)))
]

pub step_above : (s k n g i : ℕ) → i ≡ s * n + k → k < n → g * n + n ≤ i → g < s
step_above s k n g i e h l = elim (cases_lt g s) [
  | inl less ↦ less
  | inr more ↦ absurd (omega (arith, e, h, l, mul-le s n g n more (omega arith)))
]

one_group : (p : Outline) → is_node_first p.strategy ≡ true → group_count p ≡ 1
one_group p e = rw e refl

same_by : (strategy : Strategy) (u w : WorkUnit)
    → (is_node_first strategy ≡ true → u.step ≡ w.step)
    → same_group strategy u w ≡ nat_eq u.step w.step
same_by NodeFirst u w f = sym (eq-eqb u.step w.step (f refl))
same_by Sequential u w f = refl
same_by Parallel u w f = refl

-- groups are steps, also where there is one
pub same_step : (p : Outline) (t : Tally) → IsTallyOf p t → (i j : ℕ) (s w : UnitState)
    → At t.states.items i s → At t.states.items j w
    → same_group p.strategy s.unit w.unit ≡ nat_eq s.unit.step w.unit.step
same_step p t of i j s w h g = same_by p.strategy s.unit w.unit
    (λ e.
    let one = one_group p e in let groups = of.groups in
    let a = (seat p t of i s h).step in let b = (seat p t of j w g).step in
    omega (arith, one, groups, a, b))

-- whether a bad unit bars those of a step
abbrev reaches : Outline → ℕ → UnitState → Bool
reaches p g s = is_bad s.outcome
    && (nat_eq s.unit.step g && not p.keep_nodes || not (nat_eq s.unit.step g) && not p.keepgoing)

bars_reaches : (p : Outline) (t : Tally) → IsTallyOf p t → (i j : ℕ) (s w : UnitState)
    → At t.states.items i s → At t.states.items j w
    → (is_bad s.outcome && bars p s.unit w.unit) ≡ reaches p w.unit.step s
bars_reaches p t of i j s w h g =
    ap (λ b. is_bad s.outcome
    && (b && not p.keep_nodes || not (nat_eq s.unit.step w.unit.step) && not p.keepgoing))
    (same_step p t of i j s w h g)

here_by : (same bad x y : Bool) → same ≡ true → (bad && (same && x || not same && y)) ≡ (bad && x)
here_by true true true y e = refl
here_by true true false y e = refl
here_by true false x y e = refl
here_by false bad x y e = absurd (cc)

away_by : (same bad x y : Bool) → same ≡ false → (bad && (same && x || not same && y))
    ≡ (bad && y)
away_by true bad x y e = absurd (cc)
away_by false bad x y e = refl

any_here : (p : Outline) (t : Tally) → IsTallyOf p t → (g : ℕ)
    → list_any (reaches p g) (chunk t g)
    ≡ (list_any (λ s. is_bad s.outcome) (chunk t g) && not p.keep_nodes)
any_here p t of g =
    any_alike (reaches p g) (λ s. is_bad s.outcome && not p.keep_nodes) (chunk t g)
    (λ k s h.
    let a = at_take t.nodes (drop (g * t.nodes) t.states.items) k s h in
    let at = seat p t of (g * t.nodes + k) s
    (at_drop (g * t.nodes) t.states.items k (g * t.nodes + k) s refl a.0) in
    let same = same_from_place s.unit.step s.unit.node g k t.nodes at.node a.1 (sym at.place) in
    here_by (nat_eq s.unit.step g) (is_bad s.outcome) (not p.keep_nodes) (not p.keepgoing)
    (eq-eqb s.unit.step g same.0))
    ∙ any_and (λ s. is_bad s.outcome) (not p.keep_nodes) (chunk t g)

any_away : (p : Outline) (g : ℕ) (ss : List UnitState)
    → ((k : ℕ) (s : UnitState) → At ss k s → s.unit.step ≡ g → ⊥)
    → list_any (reaches p g) ss ≡ (list_any (λ s. is_bad s.outcome) ss && not p.keepgoing)
any_away p g ss f =
    any_alike (reaches p g) (λ s. is_bad s.outcome && not p.keepgoing) ss
    (λ k s h. away_by (nat_eq s.unit.step g) (is_bad s.outcome) (not p.keep_nodes)
    (not p.keepgoing) (ne_eqb s.unit.step g (f k s h)))
    ∙ any_and (λ s. is_bad s.outcome) (not p.keepgoing) ss

front : (p : Outline) (t : Tally) → IsTallyOf p t → (g k : ℕ) (s : UnitState)
    → At (take (g * t.nodes) t.states.items) k s → s.unit.step ≡ g → ⊥
front p t of g k s h e =
    let a = at_take (g * t.nodes) t.states.items k s h in
    let at = seat p t of k s a.0 in
    omega (arith, e, step_below s.unit.step s.unit.node t.nodes g k at.place a.1)

behind : (p : Outline) (t : Tally) → IsTallyOf p t → (g k : ℕ) (s : UnitState)
    → At (drop t.nodes (drop (g * t.nodes) t.states.items)) k s → s.unit.step ≡ g → ⊥
behind p t of g k s h e =
    let i = g * t.nodes + (t.nodes + k) in
    let a = at_drop (g * t.nodes) t.states.items (t.nodes + k) i s refl
    (at_drop t.nodes (drop (g * t.nodes) t.states.items) k (t.nodes + k) s refl h) in
    let at = seat p t of i s a in
    omega (
      arith,
      e,
      step_above s.unit.step s.unit.node t.nodes g i at.place at.node (omega arith),
    )

joined : (a b c x y : Bool) → ((a && y) || ((b && x) || (c && y))) ≡ (b && x || (a || c) && y)
joined true true c true true = refl
joined true true c true false = refl
joined true true c false true = refl
joined true true true false false = refl
joined true true false false false = refl
joined true false c x true = refl
joined true false true x false = refl
joined true false false x false = refl
joined false true c true y = refl
joined false true c false y = refl
joined false false c x y = refl

by_parts : (p : Outline) (t : Tally) → IsTally t → IsTallyOf p t → (g : ℕ) (gs : GroupState)
    → At t.groups.items g gs → list_any (reaches p g) t.states.items ≡ bars_group p t gs
by_parts p t is of g gs at =
    let bad = λ (s : UnitState). is_bad s.outcome in
    let m = g * t.nodes in
    let a = take m t.states.items in
    let b = chunk t g in
    let c = drop t.nodes (drop m t.states.items) in
    let parts = in_parts t.states.items m t.nodes in
    let counted : gs.bad ≡ count_by bad b = ap (λ (v : GroupState). v.bad) (group_is t is g gs at)
    in
    let whole : t.bad ≡ count_by bad a + (count_by bad b + count_by bad c) =
    is.bad ∙ ap (count_by bad) parts ∙ three_counts bad a b c in
    ap (list_any (reaches p g)) parts ∙ three_any (reaches p g) a b c
    ∙ ap (λ v. v || (list_any (reaches p g) b || list_any (reaches p g) c))
    (any_away p g a (front p t of g))
    ∙ ap (λ v. (list_any bad a && not p.keepgoing) || (v || list_any (reaches p g) c))
    (any_here p t of g)
    ∙ ap (λ v. (list_any bad a && not p.keepgoing) || ((list_any bad b && not p.keep_nodes) || v))
    (any_away p g c (behind p t of g))
    ∙ joined (list_any bad a) (list_any bad b) (list_any bad c) (not p.keep_nodes)
    (not p.keepgoing)
    ∙ ap (λ v. v && not p.keep_nodes || (list_any bad a || list_any bad c) && not p.keepgoing)
    (sym (ap (nat_lt 0) counted ∙ some_counted bad b))
    ∙ ap (λ v. nat_lt 0 gs.bad && not p.keep_nodes || v && not p.keepgoing)
    (sym (ap (λ k. nat_lt k t.bad) counted ∙ ap (nat_lt (count_by bad b)) whole
    ∙ more_beside (count_by bad a) (count_by bad b) (count_by bad c)
    ∙ ap (λ v. v || nat_lt 0 (count_by bad c)) (some_counted bad a)
    ∙ ap (λ v. list_any bad a || v) (some_counted bad c)))

-- a unit that is not opened is barred where its group is, or its node is withdrawn
pub barred_is : (p : Outline) (t : Tally) → IsTally t → IsTallyOf p t → (i : ℕ) (w : UnitState)
    → At t.states.items i w → w.opened ≡ false → (gs : GroupState)
    → At t.groups.items w.unit.step gs
    → barred_by p t.states.items w ≡ (bars_group p t gs || w.withdrawn)
barred_is p t is of i w h e gs g =
    ap (λ b. not b
    && (list_any (λ s. is_bad s.outcome && bars p s.unit w.unit) t.states.items || w.withdrawn)) e
    ∙ ap (λ b. b || w.withdrawn)
    (any_alike (λ s. is_bad s.outcome && bars p s.unit w.unit) (reaches p w.unit.step)
    t.states.items (λ k s a. bars_reaches p t of k i s w a h)
    ∙ by_parts p t is of w.unit.step gs g)

-- the first of its group that is not passed is barred as its group is
pub ahead_is : (p : Outline) (t : Tally) → IsTally t → IsTallyOf p t → (i : ℕ) (w : UnitState)
    → At t.states.items i w → IsAhead w → (gs : GroupState) → At t.groups.items w.unit.step gs
    → bars_group p t gs ≡ false → barred_by p t.states.items w ≡ false
ahead_is p t is of i w h e gs g free =
    barred_is p t is of i w h e.closed gs g
    ∙ or_from (bars_group p t gs) w.withdrawn free e.stays

-- a unit that is not opened, of a withdrawn node, is barred
pub withdrawn_barred : (p : Outline) (all : List UnitState) (s : UnitState) → s.opened ≡ false
    → s.withdrawn ≡ true → barred_by p all s ≡ true
withdrawn_barred p all s e w =
    and_from (not s.opened)
    (list_any (λ v. is_bad v.outcome && bars p v.unit s.unit) all || s.withdrawn)
    (not_from_false s.opened e)
    (or_right (list_any (λ v. is_bad v.outcome && bars p v.unit s.unit) all) s.withdrawn w)

-- an opened one is not
pub opened_free : (p : Outline) (all : List UnitState) (s : UnitState) → s.opened ≡ true
    → barred_by p all s ≡ false
opened_free p all s e =
    ap (λ b. not b
    && (list_any (λ v. is_bad v.outcome && bars p v.unit s.unit) all || s.withdrawn)) e
