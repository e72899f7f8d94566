-- The unit of a leaf that begins, or is open.
use Rattle.std.proofs.Common.{◌≡◌, ℕ, ◌<◌, true, false, not, ◌&&◌, nat_eq, Some, option_map, unwrap_or, List, [], ◌∷◌, ◌++◌, length, get_or, sym, ap, ◌∙◌, subst, arith, refl}
use Rattle.std.specs.List.{list_any}
use Rattle.std.proofs.lemmas.Bool.{and_from, and_parts, eq-eqb, not-true}
use Rattle.rb_causes.specs.declared.ending.Ending.{Ending}
use Rattle.rb_marks.specs.Results.{leaf_result, slot_result}
use Rattle.rb_marks.specs.Sound.{IsSound}
use Rattle.rb_marks.specs.Units.{Outline, units_of, is_settled}
use Rattle.rb_marks.specs.First.{IsLegal, MayFollow, first_startable, is_begin_of, is_open, may_withdraw, opens}
use Rattle.rb_marks.specs.declared.mark.Leaf.{Leaf}
use Rattle.rb_marks.specs.declared.mark.Mark.{Mark}
use Rattle.rb_marks.specs.declared.mark.Mark.TheVariants.{End, Withdraw}
use Rattle.rb_marks.specs.declared.units.WorkUnit.{WorkUnit}
use Rattle.rb_marks.proofs.Growing.{unsettled}
use Rattle.rb_marks.proofs.Once.{next_is_of}
use Rattle.rb_marks.proofs.Waits.{first_gives}
use Rattle.rb_marks.proofs.Withdrawing.{unopened_unit}
use Rattle.rb_flow.specs.declared.kept.FlowCache.{FlowCache}
use Rattle.rb_flow.specs.Cursors.{HasPassed}
use Rattle.rb_flow.specs.Kept.{IsKept, StaysPassed, leaf_unit_place, slot_group}
use Rattle.rb_flow.proofs.Coming.{cursors_stay}
use Rattle.rb_flow.proofs.KeptMarks.{IsUnitOf}
use Rattle.rb_flow.proofs.Table.{open_has_unit, unit_is_at, row_ended}
use Rattle.rb_flow.proofs.UnitPlaces.{node_below, node_in_grid}

-- the first startable leaf is of a unit
pub first_unit : (p : Outline) → IsSound p → (hs : List Mark) (leaf : Leaf)
    → first_startable p hs ≡ Some leaf → (u : WorkUnit) × IsUnitOf p u leaf
first_unit p sound hs leaf first =
    let w = first_gives p (units_of p) hs (units_of p) leaf first in
    let of = next_is_of p hs w.0 leaf w.2.next in
    (w.0, record { has = w.1; of = of; placed = unit_is_at p w.0 leaf sound w.1 of })

-- an open leaf is of a unit
pub open_unit : (p : Outline) → IsSound p → (hs : List Mark) (leaf : Leaf) → IsLegal p hs
    → is_open hs leaf ≡ true → (u : WorkUnit) × IsUnitOf p u leaf
open_unit p sound hs leaf legal open' =
    let begun = (and_parts (list_any (is_begin_of leaf) hs) _ open').0 in
    let u = open_has_unit p hs leaf legal begun in
    (u.0, record { has = u.1; of = u.2; placed = unit_is_at p u.0 leaf sound u.1 u.2 })

-- a node that may be withdrawn is one of the plan's
pub withdrawn_node : (p : Outline) (hs : List Mark) (node : ℕ) → MayFollow p hs (Withdraw node)
    → node < length p.tiers
withdrawn_node p hs node f =
    let u = unopened_unit p hs node f in
    let below = node_below p u.unit u.has in
    omega (arith, below, u.on_node)

-- its unit has still come as far as its cursor once it has ended
pub still_passed : (p : Outline) (hs : List Mark) (leaf : Leaf) (ending : Ending) (u : WorkUnit)
    (k : FlowCache) → IsKept p hs k → is_open hs leaf ≡ true → IsUnitOf p u leaf
    → StaysPassed p leaf ending k
still_passed p hs leaf ending u k kept open' is v c at there =
    let more = hs ++ End leaf ending ∷ [] in
    let parts = and_parts (list_any (is_begin_of leaf) hs) (not (is_settled (leaf_result hs leaf)))
    open' in
    let undone = unsettled (leaf_result hs leaf) (not-true (is_settled (leaf_result hs leaf)) parts.1)
    in
    let place : leaf_unit_place p k.tally.nodes leaf ≡ leaf_unit_place p (length p.tiers) leaf =
    ap (λ n. leaf_unit_place p n leaf) kept.nodes in
    let node : leaf.node ≡ v.node =
    sym (node_in_grid p (slot_group p leaf.slot) leaf.node v is.placed.group is.placed.node)
    ∙ ap (λ i. (get_or (units_of p) i v).node) (sym place) ∙ ap (λ w. w.node) at in
    let passed = (cursors_stay p hs (End leaf ending) k.cursors.items kept.cursors).each
    (leaf_unit_place p k.tally.nodes leaf) v c (omega (arith, is.placed.place, place)) at there in
    subst (λ f. HasPassed p f v c)
    (ap (slot_result more) (sym node)
    ∙ sym (row_ended p hs leaf ending k.leaves kept.leaves is.placed.node is.placed.slot undone))
    passed

-- the node of the first startable leaf may be withdrawn where the leaf opens its unit
pub first_may_withdraw : (p : Outline) (hs : List Mark) (leaf : Leaf)
    → first_startable p hs ≡ Some leaf → opens p hs leaf ≡ true
    → may_withdraw p hs leaf.node ≡ true
first_may_withdraw p hs leaf first e =
    ap (λ o. unwrap_or (option_map (λ l. nat_eq l.node leaf.node && opens p hs l) o) false) first
    ∙ and_from (nat_eq leaf.node leaf.node) (opens p hs leaf) (eq-eqb leaf.node leaf.node refl) e
