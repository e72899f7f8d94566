-- What is kept is what the marks say, with one more mark.
use Rattle.std.proofs.Common.{◌≡◌, ℕ, ◌<◌, true, false, not, nat_eq, Some, List, [], ◌∷◌, ◌++◌, length, map, get_or, set, sym, ap, ◌∙◌, subst, arith, refl}
use Rattle.std.specs.List.{list_any}
use Rattle.std.proofs.lemmas.Bool.{and_parts, false_from_ne_true, eqb-true, not-true}
use Rattle.std.proofs.lemmas.List.{get_or-map}
use Rattle.rb_causes.specs.declared.ending.Ending.{Ending}
use Rattle.rb_marks.specs.Results.{leaf_result, slot_result, steps_result}
use Rattle.rb_marks.specs.Sound.{IsSound}
use Rattle.rb_marks.specs.View.{branches_of}
use Rattle.rb_marks.specs.Units.{Outline, units_of, unit_steps, result_of, is_of, is_settled}
use Rattle.rb_marks.specs.First.{IsLegal, first_startable, is_begin_of, is_open, stops, is_lost}
use Rattle.rb_marks.specs.declared.mark.Leaf.{Leaf}
use Rattle.rb_marks.specs.declared.mark.Mark.{Mark}
use Rattle.rb_marks.specs.declared.mark.Mark.TheVariants.{Begin, End, Abort, Lost, Withdraw}
use Rattle.rb_marks.specs.declared.mark.StepResult.TheVariants.{Undone}
use Rattle.rb_marks.specs.declared.units.WorkUnit.{WorkUnit}
use Rattle.rb_marks.proofs.Counts.{any_more, any_here}
use Rattle.rb_marks.proofs.Growing.{unsettled}
use Rattle.rb_marks.proofs.Places.{one_unit}
use Rattle.rb_marks.proofs.Waits.{Has}
use Rattle.rb_flow.specs.declared.kept.FlowCache.{FlowCache}
use Rattle.rb_flow.specs.declared.unit_state.UnitState.{UnitState}
use Rattle.rb_flow.specs.Tally.{IsTally}
use Rattle.rb_flow.specs.Leaves.{IsLeaves, result_in}
use Rattle.rb_flow.specs.Kept.{state_of, node_withdrawn, IsKept, Puts, HasBegun, HasWithdrawn, Finishes, leaf_unit_place, row_for, unit_begun, unit_ended, unit_place}
use Rattle.rb_flow.proofs.Changing.{begin_elsewhere, begin_here, end_elsewhere, end_here, plain_result, withdrawn_result}
use Rattle.rb_flow.proofs.OneOpen.{one_open}
use Rattle.rb_flow.specs.Cursors.{HasPassed, AreCursors}
use Rattle.rb_flow.proofs.Coming.{cursors_stay, cursors_set}
use Rattle.rb_flow.proofs.Table.{IsUnitAt, leaves_begin, leaves_withdraw, leaves_stop, leaves_end, row_says}
use Rattle.rb_flow.proofs.UnitPlaces.{unit_at, has_there, map_but_one, map_same}

-- a unit of the plan that holds the leaf, at its place
pub record IsUnitOf (p : Outline) (u : WorkUnit) (leaf : Leaf) : Type 0 where
  pub has : Has (units_of p) u
  pub of : is_of p u leaf ≡ true
  pub placed : IsUnitAt p leaf u

-- no other unit holds the leaf
not_elsewhere : (p : Outline) → IsSound p → (u : WorkUnit) (leaf : Leaf) → IsUnitOf p u leaf
    → (j : ℕ) → j < length (units_of p) → (j ≡ leaf_unit_place p (length p.tiers) leaf → ⊥)
    → is_of p (get_or (units_of p) j u) leaf ≡ false
not_elsewhere p sound u leaf is j h other =
    let n = length p.tiers in
    let place = leaf_unit_place p n leaf in
    let v = get_or (units_of p) j u in
    false_from_ne_true (is_of p v leaf)
    (λ of. let same : v ≡ u = one_unit p sound v u leaf (has_there (units_of p) j u h) is.has of is.of
    in
    other (sym (unit_at p j u h) ∙ ap (unit_place n) (same ∙ sym (is.placed.is u))
    ∙ unit_at p place u is.placed.place))

-- the units stand as before but for that of the leaf
states_changed : (p : Outline) → IsSound p → (hs more : List Mark) (u : WorkUnit) (leaf : Leaf)
    → IsUnitOf p u leaf
    → ((v : WorkUnit) → is_of p v leaf ≡ false → state_of p more v ≡ state_of p hs v)
    → map (state_of p more) (units_of p)
    ≡ set (map (state_of p hs) (units_of p)) (leaf_unit_place p (length p.tiers) leaf) (state_of p more u)
states_changed p sound hs more u leaf is same =
    let place = leaf_unit_place p (length p.tiers) leaf in
    map_but_one (state_of p hs) (state_of p more) (units_of p) place u is.placed.place
    (λ j h other. same (get_or (units_of p) j u) (not_elsewhere p sound u leaf is j h other))
    ∙ ap (λ v. set (map (state_of p hs) (units_of p)) place (state_of p more v)) (is.placed.is u)

-- the unit of the leaf stands at its place
stands_there : (p : Outline) (hs : List Mark) (u : WorkUnit) (leaf : Leaf) → IsUnitOf p u leaf
    → (k : FlowCache) → IsKept p hs k
    → get_or k.tally.states.items (leaf_unit_place p k.tally.nodes leaf) (state_of p hs u)
    ≡ state_of p hs u
stands_there p hs u leaf is k kept =
    let place = leaf_unit_place p (length p.tiers) leaf in
    ap (λ ss. get_or ss (leaf_unit_place p k.tally.nodes leaf) (state_of p hs u)) kept.states
    ∙ ap (λ n. get_or (map (state_of p hs) (units_of p)) (leaf_unit_place p n leaf) (state_of p hs u))
    kept.nodes
    ∙ get_or-map (state_of p hs) (units_of p) place u (state_of p hs u) is.placed.place
    ∙ ap (state_of p hs) (is.placed.is u)

-- what was put is how the units stand with the mark
kept_put : (p : Outline) → IsSound p → (hs : List Mark) (m : Mark) (u : WorkUnit) (leaf : Leaf)
    → IsUnitOf p u leaf → (old new : FlowCache) → IsKept p hs old
    → (change : UnitState → UnitState) → Puts p leaf old new change
    → ((v : WorkUnit) → is_of p v leaf ≡ false → state_of p (hs ++ m ∷ []) v ≡ state_of p hs v)
    → state_of p (hs ++ m ∷ []) u ≡ change (state_of p hs u)
    → IsLeaves p (hs ++ m ∷ []) new.leaves
    → AreCursors p (slot_result (hs ++ m ∷ [])) new.cursors.items → stops m ≡ false
    → is_lost m ≡ false
    → IsKept p (hs ++ m ∷ []) new
kept_put p sound hs m u leaf is old new kept change puts same here leaves cursors stop loss =
    let more = hs ++ m ∷ [] in
    let place = leaf_unit_place p (length p.tiers) leaf in
    let put = puts.states (state_of p hs u) (stands_there p hs u leaf is old kept) in
    record {
      tally = puts.tally;
      states = put.states
          ∙ ap (λ n. set old.tally.states.items (leaf_unit_place p n leaf) (change (state_of p hs u)))
          kept.nodes
          ∙ ap (λ ss. set ss place (change (state_of p hs u))) kept.states
          ∙ ap (set (map (state_of p hs) (units_of p)) place) (sym here)
          ∙ sym (states_changed p sound hs more u leaf is same);
      nodes = put.nodes ∙ kept.nodes;
      groups = put.groups ∙ kept.groups;
      leaves = leaves;
      cursors = cursors;
      stopped = puts.stopped ∙ kept.stopped ∙ sym (any_more stops hs m stop);
      lost = puts.lost ∙ kept.lost ∙ sym (any_more is_lost hs m loss);
    }

-- the first startable leaf has begun
pub kept_begun : (p : Outline) → IsSound p → (hs : List Mark) (leaf : Leaf) (u : WorkUnit)
    → first_startable p hs ≡ Some leaf → IsUnitOf p u leaf → (old new : FlowCache) → IsKept p hs old
    → HasBegun p leaf old new → IsKept p (hs ++ Begin leaf ∷ []) new
kept_begun p sound hs leaf u first is old new kept b =
    kept_put p sound hs (Begin leaf) u leaf is old new kept unit_begun b.puts
    (λ v e. begin_elsewhere p hs leaf v e) (begin_here p hs leaf u first is.of)
    (subst (IsLeaves p (hs ++ Begin leaf ∷ [])) (sym b.leaves)
    (leaves_begin p hs leaf old.leaves kept.leaves))
    (subst (λ cs. AreCursors p (slot_result (hs ++ Begin leaf ∷ [])) cs.items) (sym b.cursors)
    (cursors_stay p hs (Begin leaf) old.cursors.items kept.cursors))
    refl refl

-- an open leaf has ended
pub kept_ended : (p : Outline) → IsSound p → (hs : List Mark) (leaf : Leaf) (ending : Ending)
    (u : WorkUnit) → IsLegal p hs → is_open hs leaf ≡ true → IsUnitOf p u leaf → (old new : FlowCache)
    → IsKept p hs old → Finishes p leaf ending old new → IsKept p (hs ++ End leaf ending ∷ []) new
kept_ended p sound hs leaf ending u legal open' is old new kept f =
    let more = hs ++ End leaf ending ∷ [] in
    let parts = and_parts (list_any (is_begin_of leaf) hs) (not (is_settled (leaf_result hs leaf)))
    open' in
    let undone : leaf_result hs leaf ≡ Undone =
    unsettled (leaf_result hs leaf) (not-true (is_settled (leaf_result hs leaf)) parts.1) in
    let leaves : IsLeaves p more new.leaves =
    leaves_end p hs leaf ending old.leaves new.leaves kept.leaves is.placed.node is.placed.slot undone f.slots
    f.results in
    let row : result_in (row_for new leaf.node) ≡ slot_result more leaf.node =
    row_says p more new.leaves leaf.node leaves is.placed.node in
    let node : leaf.node ≡ u.node =
    eqb-true leaf.node u.node (and_parts (nat_eq leaf.node u.node) _ is.of).0 in
    let outcome : steps_result (result_in (row_for new leaf.node)) p.keepgoing false
    (branches_of (unit_steps p u)) ≡ result_of p more u =
    ap (λ c. steps_result c p.keepgoing false (branches_of (unit_steps p u)))
    (row ∙ ap (slot_result more) node) in
    let there : leaf_unit_place p old.tally.nodes leaf ≡ leaf_unit_place p (length p.tiers) leaf =
    ap (λ n. leaf_unit_place p n leaf) kept.nodes in
    let at_place : get_or (units_of p) (leaf_unit_place p old.tally.nodes leaf) u ≡ u =
    ap (λ i. get_or (units_of p) i u) there ∙ is.placed.is u in
    let moved = f.cursors u at_place in
    kept_put p sound hs (End leaf ending) u leaf is old new kept
    (λ s. unit_ended (steps_result (result_in (row_for new leaf.node)) p.keepgoing false
    (branches_of (unit_steps p s.unit))) s) f.puts
    (λ v e. end_elsewhere p hs leaf ending v e)
    (end_here p hs leaf ending u is.of parts.0 (one_open p sound hs legal u is.has) open'
    ∙ ap (λ r. unit_ended r (state_of p hs u)) (sym outcome))
    leaves
    (rw moved.1 (cursors_set p (slot_result more) old.cursors.items
    (leaf_unit_place p old.tally.nodes leaf) u moved.0
    (cursors_stay p hs (End leaf ending) old.cursors.items kept.cursors)
    (omega (arith, is.placed.place, there)) at_place
    (subst (λ f. HasPassed p f u moved.0) (row ∙ ap (slot_result more) node) moved.2)))
    refl refl

plain_states : (p : Outline) (hs : List Mark) (m : Mark) (us : List WorkUnit)
    → ((v : WorkUnit) → state_of p (hs ++ m ∷ []) v ≡ state_of p hs v)
    → map (state_of p hs) us ≡ map (state_of p (hs ++ m ∷ [])) us
plain_states p hs m us same =
    map_same (state_of p hs) (state_of p (hs ++ m ∷ [])) us (λ v h. sym (same v))

-- an abort or a loss
kept_plain : (p : Outline) (hs : List Mark) (m : Mark)
    → ((v : WorkUnit) → state_of p (hs ++ m ∷ []) v ≡ state_of p hs v)
    → (old new : FlowCache) → IsKept p hs old → new.tally ≡ old.tally
    → IsLeaves p (hs ++ m ∷ []) new.leaves → new.cursors ≡ old.cursors
    → new.stopped ≡ list_any stops (hs ++ m ∷ [])
    → new.lost ≡ list_any is_lost (hs ++ m ∷ []) → IsKept p (hs ++ m ∷ []) new
kept_plain p hs m same old new kept tally leaves cursors stopped lost = record {
  tally = subst IsTally (sym tally) kept.tally;
  states = ap (λ t. t.states.items) tally ∙ kept.states ∙ plain_states p hs m (units_of p) same;
  nodes = ap (λ t. t.nodes) tally ∙ kept.nodes;
  groups = ap (λ t. length t.groups.items) tally ∙ kept.groups;
  leaves = leaves;
  cursors = subst (λ cs. AreCursors p (slot_result (hs ++ m ∷ [])) cs.items) (sym cursors)
      (cursors_stay p hs m old.cursors.items kept.cursors);
  stopped = stopped;
  lost = lost;
}

pub kept_aborted : (p : Outline) (hs : List Mark) (old new : FlowCache) → IsKept p hs old
    → new.tally ≡ old.tally → new.leaves ≡ old.leaves → new.cursors ≡ old.cursors
    → new.stopped ≡ true
    → new.lost ≡ old.lost → IsKept p (hs ++ Abort ∷ []) new
kept_aborted p hs old new kept tally leaves cursors stopped lost =
    kept_plain p hs Abort (λ v. plain_result p hs Abort v
    (record { ends = λ leaf. refl; begins = λ u. refl; closed = λ u. refl }) (λ node. refl))
    old new kept tally
    (subst (IsLeaves p (hs ++ Abort ∷ [])) (sym leaves)
    (leaves_stop p hs Abort old.leaves refl kept.leaves)) cursors
    (stopped ∙ sym (any_here stops hs Abort refl))
    (lost ∙ kept.lost ∙ sym (any_more is_lost hs Abort refl))

pub kept_lost : (p : Outline) (hs : List Mark) (old new : FlowCache) → IsKept p hs old
    → new.tally ≡ old.tally → new.leaves ≡ old.leaves → new.cursors ≡ old.cursors
    → new.stopped ≡ true
    → new.lost ≡ true → IsKept p (hs ++ Lost ∷ []) new
kept_lost p hs old new kept tally leaves cursors stopped lost =
    kept_plain p hs Lost (λ v. plain_result p hs Lost v
    (record { ends = λ leaf. refl; begins = λ u. refl; closed = λ u. refl }) (λ node. refl))
    old new kept tally
    (subst (IsLeaves p (hs ++ Lost ∷ [])) (sym leaves)
    (leaves_stop p hs Lost old.leaves refl kept.leaves)) cursors
    (stopped ∙ sym (any_here stops hs Lost refl))
    (lost ∙ sym (any_here is_lost hs Lost refl))

withdrawn_states : (p : Outline) (hs : List Mark) (node : ℕ) (us : List WorkUnit)
    → map (node_withdrawn node) (map (state_of p hs) us)
    ≡ map (state_of p (hs ++ Withdraw node ∷ [])) us
withdrawn_states p hs node [] = refl
withdrawn_states p hs node (u ∷ us) =
    ap (λ s. s ∷ map (node_withdrawn node) (map (state_of p hs) us))
    (sym (withdrawn_result p hs node u))
    ∙ ap (λ ss. state_of p (hs ++ Withdraw node ∷ []) u ∷ ss) (withdrawn_states p hs node us)

-- a node is withdrawn
pub kept_withdrawn : (p : Outline) (hs : List Mark) (node : ℕ) (old new : FlowCache)
    → IsKept p hs old → HasWithdrawn node old new → IsKept p (hs ++ Withdraw node ∷ []) new
kept_withdrawn p hs node old new kept w =
    let more = hs ++ Withdraw node ∷ [] in
    record {
      tally = w.tally;
      states = w.states.states ∙ ap (map (node_withdrawn node)) kept.states
          ∙ withdrawn_states p hs node (units_of p);
      nodes = w.states.nodes ∙ kept.nodes;
      groups = w.states.groups ∙ kept.groups;
      leaves = subst (IsLeaves p more) (sym w.leaves)
          (leaves_withdraw p hs node old.leaves kept.leaves);
      cursors = subst (λ cs. AreCursors p (slot_result more) cs.items) (sym w.cursors)
          (cursors_stay p hs (Withdraw node) old.cursors.items kept.cursors);
      stopped = w.stopped ∙ kept.stopped ∙ sym (any_more stops hs (Withdraw node) refl);
      lost = w.lost ∙ kept.lost ∙ sym (any_more is_lost hs (Withdraw node) refl);
    }
