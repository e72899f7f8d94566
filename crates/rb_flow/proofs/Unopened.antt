-- Whether a leaf's unit is opened, by what is kept.
use Rattle.std.proofs.Common.{◌≡◌, ℕ, ◌+◌, ◌*◌, ◌<◌, Bool, true, not, ◌&&◌, inl, inr, List, [], ◌∷◌, map, length, get_or, sym, ap, ◌∙◌, subst, arith}
use Rattle.std.specs.List.{list_any}
use Rattle.std.proofs.lemmas.Bool.{and_parts, eq-eqb, false_from_ne_true, not_from_false}
use Rattle.std.proofs.lemmas.List.{get_or-map, get_or_default, length-map}
use Rattle.rb_marks.specs.Sound.{IsSound}
use Rattle.rb_marks.specs.View.{branches_of}
use Rattle.rb_marks.specs.Units.{Outline, units_of, unit_steps, is_of, steps_hold}
use Rattle.rb_marks.specs.First.{opens}
use Rattle.rb_marks.specs.declared.mark.Leaf.{Leaf}
use Rattle.rb_marks.specs.declared.mark.Mark.{Mark}
use Rattle.rb_marks.proofs.Waits.{Has}
use Rattle.rb_flow.specs.declared.kept.FlowCache.{FlowCache}
use Rattle.rb_flow.specs.declared.unit_state.UnitState.{UnitState}
use Rattle.rb_flow.specs.Kept.{IsKept, IsReady, leaf_unit_place, opens_by, slot_group, state_of, unit_place}
use Rattle.rb_flow.proofs.Putting.{StandsAt, place_within, stands_node}
use Rattle.rb_flow.proofs.Startable.{any_mapped}
use Rattle.rb_flow.proofs.Statuses.{any_gives, any_has, both_same}
use Rattle.rb_flow.proofs.Table.{unit_is_at}
use Rattle.rb_flow.proofs.UnitPlaces.{has_there, stands_somewhere, unit_at}

has_map : {X Y : Type 0} (f : X → Y) (xs : List X) (x : X) → Has xs x → Has (map f xs) (f x)
has_map f [] x h = absurd h
has_map f (y ∷ ys) x (inl same) = inl (ap f same)
has_map f (y ∷ ys) x (inr later) = inr (has_map f ys x later)

-- how the unit that holds a leaf stands, and where
record IsHolder (p : Outline) (k : FlowCache) (leaf : Leaf) (s : UnitState) : Type 0 where
  pub group : slot_group p leaf.slot < length k.tally.groups.items
  pub node : leaf.node < k.tally.nodes
  pub is : get_or k.tally.states.items (leaf_unit_place p k.tally.nodes leaf) s ≡ s

holder_at : (p : Outline) (k : FlowCache) (leaf : Leaf) (s : UnitState) → IsReady p k → IsSound p
    → Has k.tally.states.items s → is_of p s.unit leaf ≡ true → IsHolder p k leaf s
holder_at p k leaf s ready sound has of =
    let states = k.tally.states.items in
    let n = length p.tiers in
    let unit_has : Has (units_of p) s.unit =
    subst (λ us. Has us s.unit) ready.of.units (has_map (λ t. t.unit) states s has) in
    let placed = unit_is_at p s.unit leaf sound unit_has of in
    let at = stands_somewhere states s has in
    let i = at.0 in
    let size : length states ≡ length (units_of p) =
    sym (length-map states (λ t. t.unit)) ∙ ap length ready.of.units in
    let below = at.1 in
    let here : get_or (units_of p) i s.unit ≡ s.unit =
    ap (λ us. get_or us i s.unit) (sym ready.of.units)
    ∙ get_or-map (λ t. t.unit) states i s s.unit below ∙ ap (λ t. t.unit) at.2 in
    let place = leaf_unit_place p n leaf in
    let same : place ≡ i =
    sym (ap (unit_place n) (sym (placed.is s.unit)) ∙ unit_at p place s.unit placed.place)
    ∙ ap (unit_place n) (sym here) ∙ unit_at p i s.unit (omega (arith, below, size)) in
    let groups = ready.of.groups in
    let nodes = ready.of.nodes in
    let group = placed.group in
    let node = placed.node in
    record {
      group = omega (arith, group, groups);
      node = omega (arith, node, nodes);
      is = ap (λ m. get_or states (leaf_unit_place p m leaf) s) nodes
          ∙ ap (λ j. get_or states j s) same ∙ at.2;
    }

-- a leaf that no unit can hold opens its unit, as there is none
pub opens_outside : (p : Outline) (k : FlowCache) (leaf : Leaf) → IsReady p k → IsSound p
    → (slot_group p leaf.slot < length k.tally.groups.items → leaf.node < k.tally.nodes → ⊥)
    → true ≡ opens_by p k leaf
opens_outside p k leaf ready sound out =
    let test : UnitState → Bool = λ s. is_of p s.unit leaf && s.opened in
    let states = k.tally.states.items in
    sym (not_from_false (list_any test states) (false_from_ne_true (list_any test states)
    (λ some.
    let s = any_gives test states some in
    let at = holder_at p k leaf s.0 ready sound s.1
    (and_parts (is_of p s.0.unit leaf) s.0.opened s.2).0 in
    out at.group at.node)))

-- else the unit at the leaf's place tells
pub opens_inside : (p : Outline) (k : FlowCache) (leaf : Leaf) (group : ℕ) (c : UnitState)
    (holds : Bool) → IsReady p k → IsSound p → StandsAt p k leaf group c
    → holds ≡ steps_hold (branches_of (unit_steps p c.unit)) leaf.slot
    → not (holds && c.opened) ≡ opens_by p k leaf
opens_inside p k leaf group c holds ready sound stands e =
    let test : UnitState → Bool = λ s. is_of p s.unit leaf && s.opened in
    let states = k.tally.states.items in
    let place = group * k.tally.nodes + leaf.node in
    let within = place_within p k leaf group c ready stands in
    let there : leaf_unit_place p k.tally.nodes leaf ≡ place =
    ap (λ g. g * k.tally.nodes + leaf.node) (sym stands.in_group) in
    let node = stands_node p k leaf group c ready stands in
    let one : (holds && c.opened) ≡ test c =
    ap (λ b. b && c.opened)
    (e ∙ sym (ap (λ b. b && steps_hold (branches_of (unit_steps p c.unit)) leaf.slot)
    (eq-eqb leaf.node c.unit.node (sym node)))) in
    let has : Has states c = subst (Has states) (sym stands.is) (has_there states place c within) in
    ap not (one ∙ both_same (test c) (list_any test states) (λ t. any_has test states c has t)
    (λ some.
    let s = any_gives test states some in
    let at = holder_at p k leaf s.0 ready sound s.1
    (and_parts (is_of p s.0.unit leaf) s.0.opened s.2).0 in
    let same : c ≡ s.0 =
    stands.is ∙ get_or_default states place c s.0 within
    ∙ ap (λ i. get_or states i s.0) (sym there) ∙ at.is in
    ap test same ∙ s.2))

-- what is kept tells what the marks tell
pub opens_is : (p : Outline) (marks : List Mark) (k : FlowCache) (leaf : Leaf)
    → IsKept p marks k → opens_by p k leaf ≡ opens p marks leaf
opens_is p marks k leaf kept =
    ap (λ ss. not (list_any (λ s. is_of p s.unit leaf && s.opened) ss)) kept.states
    ∙ ap not (any_mapped (λ s. is_of p s.unit leaf && s.opened) (state_of p marks) (units_of p))
