-- The unit of a leaf is put at its place.
use Rattle.std.proofs.Common.{◌≡◌, ℕ, ◌+◌, ◌*◌, ◌<◌, true, length, get_or, set, sym, ap, ◌∙◌, arith}
use Rattle.std.proofs.lemmas.List.{get_or-map, get_or_default}
use Rattle.std.proofs.lemmas.Nat.{mul-add-lt}
use Rattle.rb_marks.specs.Units.{Outline, units_of}
use Rattle.rb_marks.specs.declared.mark.Leaf.{Leaf}
use Rattle.rb_marks.specs.declared.units.WorkUnit.{WorkUnit}
use Rattle.rb_flow.specs.declared.kept.FlowCache.{FlowCache}
use Rattle.rb_flow.specs.declared.unit_state.UnitState.{UnitState}
use Rattle.rb_flow.specs.Tally.{IsTally, HasStates, CanStand}
use Rattle.rb_flow.specs.Kept.{IsReady, Puts, leaf_unit_place, slot_group}
use Rattle.rb_flow.proofs.UnitPlaces.{node_in_grid}

-- this is how the unit at the place of a leaf stands
pub record StandsAt (p : Outline) (k : FlowCache) (leaf : Leaf) (group : ℕ) (s : UnitState)
    : Type 0 where
  pub in_group : group ≡ slot_group p leaf.slot
  pub within : group < length k.tally.groups.items
  pub node : leaf.node < k.tally.nodes
  pub is : s ≡ get_or k.tally.states.items (group * k.tally.nodes + leaf.node) s

pub stands_at : (p : Outline) (k : FlowCache) (leaf : Leaf) (group : ℕ) (s : UnitState)
    → group ≡ slot_group p leaf.slot → slot_group p leaf.slot < length k.tally.groups.items
    → leaf.node < k.tally.nodes
    → s ≡ get_or k.tally.states.items (group * k.tally.nodes + leaf.node) s
    → StandsAt p k leaf group s
stands_at p k leaf group s e within node is =
    record { in_group = e; within = omega (arith, within, e); node = node; is = is }

-- the place is one of a unit
pub place_within : (p : Outline) (k : FlowCache) (leaf : Leaf) (group : ℕ) (s : UnitState) → IsReady p k
    → StandsAt p k leaf group s
    → group * k.tally.nodes + leaf.node < length k.tally.states.items
place_within p k leaf group s ready at =
    let below = mul-add-lt group k.tally.nodes leaf.node (length k.tally.groups.items) at.within at.node
    in
    let size = ready.tally.size in
    grind (arith, below, size)

-- its unit is of the leaf's node
pub stands_node : (p : Outline) (k : FlowCache) (leaf : Leaf) (group : ℕ) (s : UnitState) → IsReady p k
    → StandsAt p k leaf group s → s.unit.node ≡ leaf.node
stands_node p k leaf group s ready at =
    let place = group * k.tally.nodes + leaf.node in
    let within = place_within p k leaf group s ready at in
    ap (λ t. t.unit.node) at.is
    ∙ ap (λ u. u.node)
    (sym (get_or-map (λ t. t.unit) k.tally.states.items place s s.unit within))
    ∙ ap (λ us. (get_or us place s.unit).node) ready.of.units
    ∙ ap (λ n. (get_or (units_of p) (group * n + leaf.node) s.unit).node) ready.of.nodes
    ∙ node_in_grid p group leaf.node s.unit (omega (arith, at.within, ready.of.groups))
    (omega (arith, at.node, ready.of.nodes))

-- its unit is that of the plan
pub stands_unit : (p : Outline) (k : FlowCache) (leaf : Leaf) (group : ℕ) (s : UnitState) → IsReady p k
    → StandsAt p k leaf group s → (u : WorkUnit)
    → get_or (units_of p) (leaf_unit_place p k.tally.nodes leaf) u ≡ u → s.unit ≡ u
stands_unit p k leaf group s ready at u e =
    let place = group * k.tally.nodes + leaf.node in
    let within = place_within p k leaf group s ready at in
    let there : leaf_unit_place p k.tally.nodes leaf ≡ place =
    ap (λ g. g * k.tally.nodes + leaf.node) (sym at.in_group) in
    ap (λ t. t.unit) at.is
    ∙ sym (get_or-map (λ t. t.unit) k.tally.states.items place s u within)
    ∙ ap (λ us. get_or us place u) ready.of.units
    ∙ ap (λ i. get_or (units_of p) i u) (sym there) ∙ e

-- an opened state of the same unit may stand there
pub may_stand : (p : Outline) (k : FlowCache) (leaf : Leaf) (group : ℕ) (s new : UnitState)
    → IsReady p k → StandsAt p k leaf group s → new.unit ≡ s.unit → new.opened ≡ true
    → new.withdrawn ≡ s.withdrawn
    → CanStand k.tally.states.items (group * k.tally.nodes + new.unit.node) new
may_stand p k leaf group s new ready at unit opened withdrawn =
    let place = group * k.tally.nodes + leaf.node in
    let all = k.tally.states.items in
    let node : new.unit.node ≡ leaf.node =
    ap (λ u. u.node) unit ∙ stands_node p k leaf group s ready at in
    let same : get_or all (group * k.tally.nodes + new.unit.node) new ≡ s =
    ap (λ n. get_or all (group * k.tally.nodes + n) new) node
    ∙ get_or_default all place new s (place_within p k leaf group s ready at) ∙ sym at.is in
    record {
      unit = ap (λ t. t.unit) same ∙ sym unit;
      opened = λ e. opened;
      withdrawn = λ e. withdrawn ∙ sym (ap (λ t. t.withdrawn) same) ∙ e;
    }

-- what was put at the place is the unit of the leaf
pub was_put : (p : Outline) (leaf : Leaf) (old new : FlowCache) (group : ℕ) (s put : UnitState)
    (change : UnitState → UnitState) → IsReady p old → StandsAt p old leaf group s
    → put ≡ change s → put.unit ≡ s.unit → IsTally new.tally
    → HasStates old.tally new.tally
    (set old.tally.states.items (group * old.tally.nodes + put.unit.node) put)
    → new.stopped ≡ old.stopped → new.lost ≡ old.lost → Puts p leaf old new change
was_put p leaf old new group s put change ready at is unit tally states stopped lost =
    let all = old.tally.states.items in
    let place = group * old.tally.nodes + leaf.node in
    let node : put.unit.node ≡ leaf.node =
    ap (λ u. u.node) unit ∙ stands_node p old leaf group s ready at in
    record {
      tally = tally;
      states = λ t e.
          let there : leaf_unit_place p old.tally.nodes leaf ≡ place =
          ap (λ g. g * old.tally.nodes + leaf.node) (sym at.in_group) in
          let same : s ≡ t =
          at.is ∙ get_or_default all place s t (place_within p old leaf group s ready at)
          ∙ ap (λ i. get_or all i t) (sym there) ∙ e in
          let put_there : set all (group * old.tally.nodes + put.unit.node) put
          ≡ set all (leaf_unit_place p old.tally.nodes leaf) (change t) =
          ap (λ n. set all (group * old.tally.nodes + n) put) node
          ∙ ap (λ i. set all i put) (sym there)
          ∙ ap (set all (leaf_unit_place p old.tally.nodes leaf)) (is ∙ ap change same) in
          record {
            states = states.states ∙ put_there;
            nodes = states.nodes;
            groups = states.groups;
          };
      stopped = stopped;
      lost = lost;
    }
