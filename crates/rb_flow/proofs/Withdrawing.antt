-- A withdrawn node's units are marked group by group.
use Rattle.std.proofs.Common.{◌≡◌, ℕ, ◌+◌, ◌*◌, ◌<◌, ◌≤◌, Bool, true, ◌&&◌, ◌||◌, nat_eq, nat_lt, inl, inr, suc, List, [], ◌∷◌, map, length, get_or, set, sym, ap, ◌∙◌, arith, refl}
use Rattle.std.proofs.lemmas.Bool.{cases_lt, cases_eq, eq-eqb, ne_eqb, lt-ltb, le-ltb, and_from, or_right}
use Rattle.std.proofs.lemmas.List.{get_or-map, get_or_default, length-map}
use Rattle.std.proofs.Math.Bool.{and-false}
use Rattle.rb_marks.specs.Units.{Outline}
use Rattle.rb_marks.proofs.Counts.{or_false}
use Rattle.rb_flow.specs.declared.unit_state.UnitState.{UnitState}
use Rattle.rb_flow.specs.declared.tally.Tally.{Tally}
use Rattle.rb_flow.specs.Tally.{IsTally, IsTallyOf, HasStates, CanStand}
use Rattle.rb_flow.specs.Kept.{node_withdrawn}
use Rattle.rb_flow.proofs.Seats.{At, at_less, at_get, at_get_or}
use Rattle.rb_flow.proofs.Grid.{seat}
use Rattle.rb_flow.proofs.Entering.{in_group}
use Rattle.rb_flow.proofs.UnitPlaces.{map_but_one}

-- withdrawn or not
abbrev with_flag : UnitState → Bool → UnitState
with_flag s b = record s { withdrawn = b }

-- the node of the unit is withdrawn, where it is this one and the group is one of the first
abbrev pub withdrawn_before : ℕ → ℕ → UnitState → UnitState
withdrawn_before group node s =
    record s { withdrawn = s.withdrawn || nat_lt s.unit.step group && nat_eq node s.unit.node }

-- so far the units of the first so many groups are marked
pub record IsWithdrawn (t now : Tally) (group node : ℕ) : Type 0 where
  pub is : IsTally now
  pub states : HasStates t now (map (withdrawn_before group node) t.states.items)

-- the unit of the node in a group
record IsUnitIn (t : Tally) (g k : ℕ) (x : UnitState) : Type 0 where
  pub within : g * t.nodes + k < length t.states.items
  pub is : (d : UnitState) → get_or t.states.items (g * t.nodes + k) d ≡ x
  pub step : x.unit.step ≡ g
  pub node : x.unit.node ≡ k

unit_in : (p : Outline) (t : Tally) → IsTally t → IsTallyOf p t → (group node : ℕ)
    → group < length t.groups.items → node < t.nodes → (x : UnitState) × IsUnitIn t group node x
unit_in p t is of group node g n =
    let r = in_group p t is of group node g n in
    let place = group * t.nodes + node in (
      r.0,
      record {
        within = at_less t.states.items place r.0 r.1;
        is = λ d. at_get t.states.items place r.0 d r.1;
        step = r.2;
        node = r.3;
      },
    )

before_none : (node : ℕ) (s : UnitState) → s ≡ withdrawn_before 0 node s
before_none node s =
    sym (ap (with_flag s)
    (ap (λ b. s.withdrawn || b && nat_eq node s.unit.node) (le-ltb s.unit.step 0 (omega arith))
    ∙ or_false s.withdrawn))

none_before : (node : ℕ) (xs : List UnitState) → xs ≡ map (withdrawn_before 0 node) xs
none_before node [] = refl
none_before node (x ∷ xs) =
    ap (λ y. y ∷ xs) (before_none node x)
    ∙ ap (λ ys. withdrawn_before 0 node x ∷ ys) (none_before node xs)

-- before the first group
pub withdrawn_start : (t : Tally) → IsTally t → (node : ℕ) → IsWithdrawn t t 0 node
withdrawn_start t is node = record {
  is = is;
  states = record { states = none_before node t.states.items; nodes = refl; groups = refl };
}

-- what is read at the place of the group's unit
state_read : (t now : Tally) (group node : ℕ) (s x : UnitState) → IsUnitIn t group node x
    → IsWithdrawn t now group node → s ≡ get_or now.states.items (group * now.nodes + node) s
    → s ≡ withdrawn_before group node x
state_read t now group node s x at so read =
    read
    ∙ ap (λ n. get_or now.states.items (group * n + node) s) so.states.nodes
    ∙ ap (λ l. get_or l (group * t.nodes + node) s) so.states.states
    ∙ get_or-map (withdrawn_before group node) t.states.items (group * t.nodes + node) x s at.within
    ∙ ap (withdrawn_before group node) (at.is x)

-- its node
pub read_node : (p : Outline) (t now : Tally) (group node : ℕ) (s : UnitState) → IsTally t
    → IsTallyOf p t → group < length t.groups.items → node < t.nodes
    → IsWithdrawn t now group node → s ≡ get_or now.states.items (group * now.nodes + node) s
    → s.unit.node ≡ node
read_node p t now group node s is of g n so read =
    let x = unit_in p t is of group node g n in
    ap (λ v. v.unit.node) (state_read t now group node s x.0 x.1 so read) ∙ x.1.node

-- the same unit, withdrawn, may stand there
pub withdrawn_stands : (p : Outline) (t now : Tally) (group node : ℕ) (s : UnitState)
    → IsTally t → IsTallyOf p t → group < length t.groups.items → node < t.nodes
    → IsWithdrawn t now group node → s ≡ get_or now.states.items (group * now.nodes + node) s
    → CanStand now.states.items (group * now.nodes + s.unit.node) (with_flag s true)
withdrawn_stands p t now group node s is of g n so read =
    let x = unit_in p t is of group node g n in
    let here = read_node p t now group node s is of g n so read in
    let size : length now.states.items ≡ length t.states.items =
    ap length so.states.states ∙ length-map t.states.items (withdrawn_before group node) in
    let place : group * now.nodes + node ≡ group * t.nodes + node =
    ap (λ k. group * k + node) so.states.nodes in
    let within = x.1.within in
    let same : get_or now.states.items (group * now.nodes + s.unit.node) (with_flag s true) ≡ s =
    ap (λ k. get_or now.states.items (group * now.nodes + k) (with_flag s true)) here
    ∙ get_or_default now.states.items (group * now.nodes + node) (with_flag s true) s
    (omega (arith, size, place, within))
    ∙ sym read in
    record {
      unit = ap (λ v. v.unit) same;
      opened = λ e. sym (ap (λ v. v.opened) same) ∙ e;
      withdrawn = λ e. refl;
    }

beside : (step at group node : ℕ) → (step ≡ group → at ≡ node → ⊥)
    → (nat_lt step (group + 1) && nat_eq node at) ≡ (nat_lt step group && nat_eq node at)
beside step at group node apart = elim (cases_eq at node) [
  | inl same ↦ elim (cases_lt step group) [
    | inl less ↦ ap (λ b. b && nat_eq node at)
        (lt-ltb step (group + 1) (omega (arith, less)) ∙ sym (lt-ltb step group less))
    | inr more ↦ elim (cases_eq step group) [
      | inl here ↦ absurd (apart here same)
      | inr other ↦ ap (λ b. b && nat_eq node at)
          (le-ltb step (group + 1) (omega (arith, more, other)) ∙ sym (le-ltb step group more))
    ]
  ]
  | inr other ↦
      let no = ne_eqb node at (λ e. other (sym e)) in
      ap (λ b. nat_lt step (group + 1) && b) no ∙ and-false (nat_lt step (group + 1))
      ∙ sym (ap (λ b. nat_lt step group && b) no ∙ and-false (nat_lt step group))
]

-- the other units stand as before
others_stay : (p : Outline) (t : Tally) → IsTallyOf p t → (group node j : ℕ) (d : UnitState)
    → j < length t.states.items → (j ≡ group * t.nodes + node → ⊥)
    → withdrawn_before (group + 1) node (get_or t.states.items j d)
    ≡ withdrawn_before group node (get_or t.states.items j d)
others_stay p t of group node j d h other =
    let y = get_or t.states.items j d in
    let at = seat p t of j y (at_get_or t.states.items j d h) in
    let place = at.place in
    ap (λ b. with_flag y (y.withdrawn || b))
    (beside y.unit.step y.unit.node group node
    (λ step here. other (place ∙ ap (λ k. k * t.nodes + y.unit.node) step
    ∙ ap (λ k. group * t.nodes + k) here)))

-- the group's unit is withdrawn
this_withdrawn : (t : Tally) (group node : ℕ) (x : UnitState) → IsUnitIn t group node x
    → withdrawn_before (group + 1) node x ≡ with_flag (withdrawn_before group node x) true
this_withdrawn t group node x at =
    let step = at.step in
    ap (with_flag x)
    (or_right x.withdrawn (nat_lt x.unit.step (group + 1) && nat_eq node x.unit.node)
    (and_from (nat_lt x.unit.step (group + 1)) (nat_eq node x.unit.node)
    (lt-ltb x.unit.step (group + 1) (omega (arith, step)))
    (eq-eqb node x.unit.node (sym at.node))))

-- one group more
pub withdrawn_more : (p : Outline) (t now new : Tally) (group node : ℕ) (s : UnitState)
    → IsTally t → IsTallyOf p t → group < length t.groups.items → node < t.nodes
    → IsWithdrawn t now group node → s ≡ get_or now.states.items (group * now.nodes + node) s
    → IsTally new
    → HasStates now new
    (set now.states.items (group * now.nodes + s.unit.node) (with_flag s true))
    → IsWithdrawn t new (group + 1) node
withdrawn_more p t now new group node s is of g n so read tally put =
    let x = unit_in p t is of group node g n in
    let xs = t.states.items in
    let place = group * t.nodes + node in
    let f = withdrawn_before group node in
    record {
      is = tally;
      states = record {
        states = put.states
            ∙ ap (λ k. set now.states.items (group * now.nodes + k) (with_flag s true))
            (read_node p t now group node s is of g n so read)
            ∙ ap (λ k. set now.states.items (group * k + node) (with_flag s true)) so.states.nodes
            ∙ ap (λ l. set l place (with_flag s true)) so.states.states
            ∙ ap (λ v. set (map f xs) place (with_flag v true))
            (state_read t now group node s x.0 x.1 so read)
            ∙ ap (set (map f xs) place) (sym (this_withdrawn t group node x.0 x.1))
            ∙ ap (λ v. set (map f xs) place (withdrawn_before (group + 1) node v))
            (sym (x.1.is x.0))
            ∙ sym (map_but_one f (withdrawn_before (group + 1) node) xs place x.0 x.1.within
            (λ j h other. others_stay p t of group node j x.0 h other));
        nodes = put.nodes ∙ so.states.nodes;
        groups = put.groups ∙ so.states.groups;
      };
    }

map_each : (f g : UnitState → UnitState) (xs : List UnitState)
    → ((i : ℕ) (s : UnitState) → At xs i s → f s ≡ g s) → map f xs ≡ map g xs
map_each f g [] e = refl
map_each f g (x ∷ xs) e =
    ap (λ y. y ∷ map f xs) (e 0 x refl)
    ∙ ap (λ ys. g x ∷ ys) (map_each f g xs (λ i. e (suc i)))

-- behind the last group
pub withdrawn_all : (p : Outline) (t now : Tally) → IsTallyOf p t → (group node : ℕ)
    → IsWithdrawn t now group node → length t.groups.items ≤ group
    → HasStates t now (map (node_withdrawn node) t.states.items)
withdrawn_all p t now of group node so end = record {
  states = so.states.states
      ∙ map_each (withdrawn_before group node) (node_withdrawn node) t.states.items
      (λ i s h. let step = (seat p t of i s h).step in
      ap (λ b. with_flag s (s.withdrawn || b && nat_eq node s.unit.node))
      (lt-ltb s.unit.step group (omega (arith, step, end))));
  nodes = so.states.nodes;
  groups = so.states.groups;
}
