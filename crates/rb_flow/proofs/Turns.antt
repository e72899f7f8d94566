-- From group to group: of the units so far none may open.
use Rattle.std.proofs.Common.{◌≡◌, ℕ, ◌+◌, ◌*◌, ◌<◌, ◌≤◌, true, false, not, inl, inr, Some, None, nat_lt, List, length, get_or, sym, ap, ◌∙◌, subst, arith}
use Rattle.std.proofs.lemmas.Bool.{cases_lt, cases_eq, and_parts, ltb-true}
use Rattle.std.proofs.lemmas.Nat.{mul-le}
use Rattle.rb_marks.specs.Units.{Outline}
use Rattle.rb_flow.specs.declared.unit_state.UnitState.{UnitState}
use Rattle.rb_flow.specs.declared.group_state.GroupState.{GroupState}
use Rattle.rb_flow.specs.declared.tally.Tally.{Tally}
use Rattle.rb_flow.specs.Tally.{IsTally, IsTallyOf}
use Rattle.rb_flow.specs.Order.{IsFirstPlace, passes_at, may_enter, bars_group, has_next, is_sequential, enters}
use Rattle.rb_flow.proofs.Seats.{At, at_less, at_same, at_get, at_get_or, at_read, at_slice, at_passes, fails_at}
use Rattle.rb_flow.proofs.Grid.{seat}
use Rattle.rb_flow.proofs.Barring.{step_above}
use Rattle.rb_flow.proofs.InWork.{places_rise}
use Rattle.rb_flow.proofs.Entering.{below_shut, beside_shut, group_shut, in_group}
use Rattle.rb_flow.proofs.Opening.{IsCursor, IsNext, NoneNext, step_of, next_enters, later_shut}

-- none of the units before this place may open
abbrev pub NoneEnters : Outline → Tally → ℕ → Type 0
NoneEnters p t n = (i : ℕ) → i < n → passes_at (may_enter p t.states.items) t.states.items i
    ≡ false

-- what holds before each group
pub record IsSoFar (p : Outline) (t : Tally) (g start at : ℕ) : Type 0 where
  pub start_is : start ≡ g * t.nodes
  pub within : at ≤ length t.places.items
  pub below : (j q : ℕ) → j < at → At t.places.items j q → q < g * t.nodes
  pub none : NoneEnters p t (g * t.nodes)
  pub sequence : is_sequential p.strategy ≡ true → NoneNext p t g

-- what is known at a group
pub record IsTurn (p : Outline) (t : Tally) (g : ℕ) (gs : GroupState) (at : ℕ) : Type 0 where
  pub is : IsTally t
  pub of : IsTallyOf p t
  pub cursor : IsCursor t (g * t.nodes) at
  pub group : At t.groups.items g gs
  pub none : NoneEnters p t (g * t.nodes)
  pub sequence : is_sequential p.strategy ≡ true → NoneNext p t g

pub at_start : (p : Outline) (t : Tally) → IsSoFar p t 0 0 0
at_start p t = record {
  start_is = omega arith;
  within = omega arith;
  below = λ j q l h. absurd (omega (arith, l));
  none = λ i l. absurd (omega (arith, l));
  sequence = λ e h hs l a. absurd (omega (arith, l));
}

pub turn : (p : Outline) (t : Tally) → IsTally t → IsTallyOf p t → (g start at next : ℕ)
    (gs : GroupState) → IsSoFar p t g start at → At t.groups.items g gs
    → next ≤ length t.places.items
    → ((j : ℕ) → at ≤ j → j < next → get_or t.places.items j 0 < start)
    → (next < length t.places.items → start ≤ get_or t.places.items next 0)
    → IsTurn p t g gs next
turn p t is of g start at next gs so group within below above =
    let start_is = so.start_is in
    let cursor : IsCursor t (g * t.nodes) next = record {
      within = within;
      below = λ j q l h. elim (cases_lt j at) [
        | inl less ↦ so.below j q less h
        | inr more ↦ let b = below j more l in let e = at_get t.places.items j q 0 h in
            omega (arith, b, e, start_is)
      ];
      above = λ j q l h.
          let len = at_less t.places.items j q h in
          let a = above (omega (arith, l, len)) in
          elim (cases_lt next j) [
            | inl less ↦
                let first = get_or t.places.items next 0 in
                let b = places_rise t is next j first q
                (at_get_or t.places.items next 0 (omega (arith, l, len))) h less in
                omega (arith, a, b, start_is)
            | inr more ↦
                let same : next ≡ j = omega (arith, l, more) in
                let e = ap (λ k. get_or t.places.items k 0) same ∙ at_get t.places.items j q 0 h in
                omega (arith, a, e, start_is)
          ];
    } in
    record {
      is = is;
      of = of;
      cursor = cursor;
      group = group;
      none = so.none;
      sequence = so.sequence;
    }

in_turn : (p : Outline) (t : Tally) (g : ℕ) (gs : GroupState) (at : ℕ) → IsTurn p t g gs at
    → ((i : ℕ) (s : UnitState) → At t.states.items i s → s.unit.step ≡ g
    → may_enter p t.states.items s ≡ false)
    → NoneEnters p t (g * t.nodes + t.nodes)
in_turn p t g gs at x f i l = elim (cases_lt i (g * t.nodes)) [
  | inl less ↦ x.none i less
  | inr more ↦ fails_at (may_enter p t.states.items) t.states.items i
      (λ s h. let at_s = seat p t x.of i s h in
      f i s h (step_of s.unit.step s.unit.node t.nodes g i at_s.place at_s.node more l))
]

group_of_step : (t : Tally) (g : ℕ) (gs : GroupState) (s : UnitState) → At t.groups.items g gs
    → s.unit.step ≡ g → At t.groups.items s.unit.step gs
group_of_step t g gs s h e = subst (λ n. At t.groups.items n gs) (sym e) h

more_below : (t : Tally) (g at : ℕ) → IsCursor t (g * t.nodes) at → (j q : ℕ) → j < at
    → At t.places.items j q → q < (g + 1) * t.nodes
more_below t g at cursor j q l h = let b = cursor.below j q l h in
    let m : (g + 1) * t.nodes ≡ g * t.nodes + t.nodes = omega arith in omega (arith, b, m)

row_end : (g n : ℕ) → g * n + n ≡ (g + 1) * n
row_end g n = omega arith

none_next_more : (p : Outline) (t : Tally) (g : ℕ) (gs : GroupState) → At t.groups.items g gs
    → has_next p t gs ≡ false → NoneNext p t g → NoneNext p t (g + 1)
none_next_more p t g gs at e none h hs l a = elim (cases_lt h g) [
  | inl less ↦ none h hs less a
  | inr more ↦
      let same : h ≡ g = omega (arith, more, l) in
      let one = at_same t.groups.items g hs gs (subst (λ k. At t.groups.items k hs) same a) at in
      ap (has_next p t) one ∙ e
]

-- the group has no next unit
pub turn_over : (p : Outline) (t : Tally) (g : ℕ) (gs : GroupState) (start at : ℕ)
    → IsTurn p t g gs at → start ≡ g * t.nodes → has_next p t gs ≡ false
    → IsSoFar p t (g + 1) (start + t.nodes) at
turn_over p t g gs start at x e over = record {
  start_is = ap (λ n. n + t.nodes) e ∙ row_end g t.nodes;
  within = let cursor = x.cursor in cursor.within;
  below = more_below t g at x.cursor;
  none = subst (NoneEnters p t) (row_end g t.nodes)
      (in_turn p t g gs at x (λ i s h step. group_shut p t x.is x.of i s h gs
      (group_of_step t g gs s x.group step) over));
  sequence = λ q. none_next_more p t g gs x.group over (x.sequence q);
}

next_of : (p : Outline) (t : Tally) (g : ℕ) (gs : GroupState) (at : ℕ) → IsTurn p t g gs at
    → has_next p t gs ≡ true → (i end : ℕ) (w : UnitState) → At t.states.items i w
    → w.unit.step ≡ g → w.unit.node ≡ gs.lead → end ≡ g * t.nodes + t.nodes
    → IsNext p t g gs w i at end
next_of p t g gs at x next i end w h step node e = record {
  is = x.is;
  of = x.of;
  cursor = x.cursor;
  end_is = e;
  group = x.group;
  next = next;
  sequence = x.sequence;
  here = h;
  step = step;
  node = node;
}

-- the next unit of a group, where it has one
pub next_at : (p : Outline) (t : Tally) (g : ℕ) (gs : GroupState) (at : ℕ) → IsTurn p t g gs at
    → has_next p t gs ≡ true
    → (w : UnitState) × At t.states.items (g * t.nodes + gs.lead) w × (w.unit.step ≡ g)
    × (w.unit.node ≡ gs.lead)
next_at p t g gs at x next =
    in_group p t x.is x.of g gs.lead (at_less t.groups.items g gs x.group)
    (ltb-true gs.lead t.nodes
    (and_parts (nat_lt gs.lead t.nodes) (not (bars_group p t gs)) next).0)

-- it may not open
pub none_here : (p : Outline) (t : Tally) (g : ℕ) (gs : GroupState) (at end : ℕ) (w : UnitState)
    → IsTurn p t g gs at → has_next p t gs ≡ true
    → At t.states.items (g * t.nodes + gs.lead) w → end ≡ g * t.nodes + t.nodes
    → enters p t at end w ≡ false → NoneEnters p t (g * t.nodes + t.nodes)
none_here p t g gs at end w x next h e held =
    in_turn p t g gs at x (λ i s a step. elim (cases_eq s.unit.node gs.lead) [
      | inl lead ↦
          let place = (seat p t x.of i s a).place in
          let row : s.unit.step * t.nodes ≡ g * t.nodes = ap (λ n. n * t.nodes) step in
          let same_place : i ≡ g * t.nodes + gs.lead = omega (arith, place, row, lead) in
          let one : s ≡ w = at_same t.states.items (g * t.nodes + gs.lead) s w
          (subst (λ k. At t.states.items k s) same_place a) h in
          next_enters p t g gs s i at end
          (next_of p t g gs at x next i end s a step lead e)
          ∙ ap (enters p t at end) one ∙ held
      | inr other ↦ beside_shut p t x.is x.of i s a gs (group_of_step t g gs s x.group step) other
    ])

-- it may not open, and later groups do not wait for it
pub turn_on : (p : Outline) (t : Tally) (g : ℕ) (gs : GroupState) (start at end : ℕ) (w : UnitState)
    → IsTurn p t g gs at → start ≡ g * t.nodes → has_next p t gs ≡ true
    → At t.states.items (g * t.nodes + gs.lead) w → end ≡ g * t.nodes + t.nodes
    → enters p t at end w ≡ false → is_sequential p.strategy ≡ false
    → IsSoFar p t (g + 1) (start + t.nodes) at
turn_on p t g gs start at end w x e next h e_end held free = record {
  start_is = ap (λ n. n + t.nodes) e ∙ row_end g t.nodes;
  within = let cursor = x.cursor in cursor.within;
  below = more_below t g at x.cursor;
  none = subst (NoneEnters p t) (row_end g t.nodes)
      (none_here p t g gs at end w x next h e_end held);
  sequence = λ q. absurd (let bad : false ≡ true = sym free ∙ q in cc);
}

-- it may open
pub found : (p : Outline) (t : Tally) (g : ℕ) (gs : GroupState) (at end : ℕ) (w : UnitState)
    → IsTurn p t g gs at → has_next p t gs ≡ true
    → At t.states.items (g * t.nodes + gs.lead) w → end ≡ g * t.nodes + t.nodes
    → enters p t at end w ≡ true
    → IsFirstPlace (may_enter p t.states.items) t.states.items (Some (g * t.nodes + gs.lead))
found p t g gs at end w x next h e goes =
    let v = next_at p t g gs at x next in
    let one = at_same t.states.items (g * t.nodes + gs.lead) v.0 w v.1 h in
    let step : w.unit.step ≡ g = ap (λ (s : UnitState). s.unit.step) (sym one) ∙ v.2 in
    let node : w.unit.node ≡ gs.lead = ap (λ (s : UnitState). s.unit.node) (sym one) ∙ v.3 in
    let l = lead_less p t gs next in (
      at_passes (may_enter p t.states.items) t.states.items (g * t.nodes + gs.lead) w h
          ∙ next_enters p t g gs w (g * t.nodes + gs.lead) at end
          (next_of p t g gs at x next (g * t.nodes + gs.lead) end w h step node e) ∙ goes,
      λ i less. elim (cases_lt i (g * t.nodes)) [
        | inl low ↦ x.none i low
        | inr more ↦ fails_at (may_enter p t.states.items) t.states.items i (λ s a.
            let at_s = seat p t x.of i s a in
            let s_step = step_of s.unit.step s.unit.node t.nodes g i at_s.place at_s.node more
            (omega (arith, less, l)) in
            let place = at_s.place in
            let row : s.unit.step * t.nodes ≡ g * t.nodes = ap (λ n. n * t.nodes) s_step in
            below_shut p t x.is x.of i s a gs (group_of_step t g gs s x.group s_step)
            (omega (arith, place, row, less)))
      ],
    )
  where
    lead_less : (p : Outline) (t : Tally) (gs : GroupState) → has_next p t gs ≡ true
        → gs.lead < t.nodes
    lead_less p t gs next = ltb-true gs.lead t.nodes
        (and_parts (nat_lt gs.lead t.nodes) (not (bars_group p t gs)) next).0

-- it may not open, and all later groups wait for it
pub stuck : (p : Outline) (t : Tally) (g : ℕ) (gs : GroupState) (at end : ℕ) (w : UnitState)
    → IsTurn p t g gs at → has_next p t gs ≡ true
    → At t.states.items (g * t.nodes + gs.lead) w → end ≡ g * t.nodes + t.nodes
    → enters p t at end w ≡ false → is_sequential p.strategy ≡ true
    → IsFirstPlace (may_enter p t.states.items) t.states.items None
stuck p t g gs at end w x next h e held seq i = elim (cases_lt i (g * t.nodes + t.nodes)) [
  | inl less ↦ none_here p t g gs at end w x next h e held i less
  | inr more ↦ fails_at (may_enter p t.states.items) t.states.items i (λ s a.
      let at_s = seat p t x.of i s a in
      later_shut p t x.is x.of seq g gs x.group next i s a
      (step_above s.unit.step s.unit.node t.nodes g i at_s.place at_s.node more))
]

-- no group is left
pub none_left : (p : Outline) (t : Tally) → IsTally t → (g start at : ℕ) → IsSoFar p t g start at
    → length t.groups.items ≤ g → IsFirstPlace (may_enter p t.states.items) t.states.items None
none_left p t is g start at so l i =
    fails_at (may_enter p t.states.items) t.states.items i (λ s h.
    let less = at_less t.states.items i s h in
    let size = is.size in
    let b = mul-le (length t.groups.items) t.nodes g t.nodes l (omega arith) in
    sym (at_passes (may_enter p t.states.items) t.states.items i s h)
    ∙ so.none i (omega (arith, less, size, b)))

-- the same by what the loop reads
pub turn_of : (p : Outline) (t : Tally) → IsTally t → IsTallyOf p t → (groups : List GroupState)
    (places : List ℕ) → groups ≡ t.groups.items → places ≡ t.places.items
    → (g start at next : ℕ) (d : GroupState) → IsSoFar p t g start at → g < length groups
    → next ≤ length places
    → ((j : ℕ) → at ≤ j → j < next → get_or places j 0 < start)
    → (next < length places → start ≤ get_or places next 0)
    → IsTurn p t g (get_or groups g d) next
turn_of p t is of groups places e f g start at next d so l within below above =
    turn p t is of g start at next (get_or groups g d) so
    (at_slice groups t.groups.items g d e l)
    (subst (λ ps. next ≤ length ps) f within)
    (subst (λ ps. (j : ℕ) → at ≤ j → j < next → get_or ps j 0 < start) f below)
    (subst (λ ps. next < length ps → start ≤ get_or ps next 0) f above)

pub next_within : (p : Outline) (t : Tally) (g : ℕ) (gs : GroupState) (at start : ℕ)
    → IsTurn p t g gs at → has_next p t gs ≡ true → start ≡ g * t.nodes
    → start + gs.lead < length t.states.items
next_within p t g gs at start x next e =
    let r = next_at p t g gs at x next in
    let l = at_less t.states.items (g * t.nodes + gs.lead) r.0 r.1 in omega (arith, l, e)

pub next_read : (p : Outline) (t : Tally) (g : ℕ) (gs : GroupState) (at start : ℕ) (w : UnitState)
    → IsTurn p t g gs at → has_next p t gs ≡ true → start ≡ g * t.nodes
    → w ≡ get_or t.states.items (start + gs.lead) w → At t.states.items (g * t.nodes + gs.lead) w
next_read p t g gs at start w x next e read =
    subst (λ k. At t.states.items (k + gs.lead) w) e
    (at_read t.states.items (start + gs.lead) w (next_within p t g gs at start x next e) read)
