-- What is chosen by what is kept is what the marks choose.
use Rattle.std.proofs.Common.{◌≡◌, ℕ, ◌+◌, ◌*◌, ◌<◌, Bool, true, false, not, ◌&&◌, ◌||◌, nat_eq, nat_le, Option, Some, None, List, [], ◌∷◌, length, map, get_or, cond, option_map, option_and_then, sym, ap, subst, ◌∙◌, refl, inl, inr, arith}
use Rattle.std.specs.List.{list_any, list_all}
use Rattle.std.proofs.lemmas.Bool.{and_from, cases_Bool}
use Rattle.rb_causes.proofs.Lists.{some_is}
use Rattle.rb_marks.specs.Results.{slot_result}
use Rattle.rb_marks.specs.Sound.{IsSound}
use Rattle.rb_marks.specs.View.{branches_of}
use Rattle.rb_marks.specs.Units.{Outline, units_of, unit_steps, result_of, unit_has_begun, has_open, is_bad, is_settled, before, ahead, bars}
use Rattle.rb_marks.specs.First.{IsLegal, stops, is_barred, is_withdrawn, lets_open, may_open, in_work, busy_from, may_go, next_in_steps, next_leaf, first_among, first_startable}
use Rattle.rb_marks.specs.declared.mark.Leaf.{Leaf}
use Rattle.rb_marks.specs.declared.mark.Mark.{Mark}
use Rattle.rb_marks.specs.declared.mark.StepResult.{StepResult}
use Rattle.rb_marks.specs.declared.units.WorkUnit.{WorkUnit}
use Rattle.rb_marks.proofs.Counts.{or_true}
use Rattle.rb_marks.proofs.Opening.{unopened_undone}
use Rattle.rb_marks.proofs.Waits.{Has}
use Rattle.rb_flow.specs.declared.kept.FlowCache.{FlowCache}
use Rattle.rb_flow.specs.declared.unit_state.UnitState.{UnitState}
use Rattle.rb_flow.specs.Tally.{is_in_work, is_begun}
use Rattle.rb_flow.specs.Choice.{busy_with, fits, barred_by, lets_open_by, may_open_by, may_go_by, first_by}
use Rattle.rb_flow.specs.Leaves.{result_in}
use Rattle.rb_flow.specs.Kept.{state_of, IsKept, IsReady, row_for, unit_place, next_leaf_by, first_leaf_by}
use Rattle.rb_flow.proofs.UnitPlaces.{node_below, unit_at, stands_somewhere}
use Rattle.rb_flow.proofs.Coming.{cursors_by}
use Rattle.rb_flow.proofs.Table.{row_says}

pub any_mapped : {X Y : Type 0} (f : X → Bool) (g : Y → X) (ys : List Y) → list_any f (map g ys)
    ≡ list_any (λ y. f (g y)) ys
any_mapped f g [] = refl
any_mapped f g (y ∷ ys) = ap (λ b. f (g y) || b) (any_mapped f g ys)

pub all_mapped : {X Y : Type 0} (f : X → Bool) (g : Y → X) (h : Y → Bool)
    → ((y : Y) → f (g y) ≡ h y) → (ys : List Y) → list_all f (map g ys) ≡ list_all h ys
all_mapped f g h e [] = refl
all_mapped f g h e (y ∷ ys) = ap (λ b. b && list_all f (map g ys)) (e y)
    ∙ ap (λ b. h y && b) (all_mapped f g h e ys)

barred_is : (p : Outline) (marks : List Mark) (us : List WorkUnit) (w : WorkUnit)
    → barred_by p (map (state_of p marks) us) (state_of p marks w) ≡ is_barred p us marks w
barred_is p marks us w =
    ap (λ b. not (unit_has_begun p marks w) && (b || is_withdrawn marks w.node))
    (any_mapped (λ s. is_bad s.outcome && bars p s.unit w) (state_of p marks) us)

lets_open_is : (p : Outline) (marks : List Mark) (us : List WorkUnit) (w u : WorkUnit)
    → lets_open_by p (map (state_of p marks) us) (state_of p marks w) (state_of p marks u)
    ≡ lets_open p us marks w u
lets_open_is p marks us w u =
    ap (λ b. ((not (before p.strategy u w) || is_settled (result_of p marks u)) || b)
    && ((not (ahead p.strategy u w) || unit_has_begun p marks u) || b)) (barred_is p marks us u)

may_open_is : (p : Outline) (marks : List Mark) (us : List WorkUnit) (w : WorkUnit)
    → may_open_by p (map (state_of p marks) us) (state_of p marks w) ≡ may_open p us marks w
may_open_is p marks us w =
    ap (λ b. not b && list_all (lets_open_by p (map (state_of p marks) us) (state_of p marks w))
    (map (state_of p marks) us)) (barred_is p marks us w)
    ∙ ap (λ b. not (is_barred p us marks w) && b)
    (all_mapped (lets_open_by p (map (state_of p marks) us) (state_of p marks w)) (state_of p marks)
    (lets_open p us marks w) (lets_open_is p marks us w) us)

busy_is : (p : Outline) (marks : List Mark) (us : List WorkUnit) (this n : ℕ) (tiers : List ℕ)
    → busy_with (map (state_of p marks) us) this n tiers ≡ busy_from p us marks this n tiers
busy_is p marks us this n [] = refl
busy_is p marks us this n (t ∷ ts) =
    ap {B = ℕ} (λ b. cond (nat_eq n this || b) 1 0
    + busy_with (map (state_of p marks) us) this (n + 1) ts)
    (any_mapped (λ s. nat_eq s.unit.node n && is_in_work s) (state_of p marks) us)
    ∙ ap (λ k. cond (nat_eq n this || list_any (λ u. nat_eq u.node n && in_work p marks u) us) 1 0
    + k) (busy_is p marks us this (n + 1) ts)

fits_is : (p : Outline) (marks : List Mark) (us : List WorkUnit) (node : ℕ)
    → fits p (map (state_of p marks) us) node ≡ nat_le (busy_from p us marks node 0 p.tiers) p.bound
fits_is p marks us node = ap (λ n. nat_le n p.bound) (busy_is p marks us node 0 p.tiers)

regrouped : (stop settled running fit enters : Bool) → stop ≡ false
    → (((not settled && not running) && fit) && enters)
    ≡ (((not stop && not running) && not settled) && (enters && fit))
regrouped true settled running fit enters e = absurd (cc)
regrouped false true true fit enters e = refl
regrouped false true false fit enters e = refl
regrouped false false true fit enters e = refl
regrouped false false false true true e = refl
regrouped false false false true false e = refl
regrouped false false false false true e = refl
regrouped false false false false false e = refl

may_go_is : (p : Outline) (marks : List Mark) (us : List WorkUnit) (w : WorkUnit)
    → list_any stops marks ≡ false
    → may_go_by p (map (state_of p marks) us) (state_of p marks w) ≡ may_go p us marks w
may_go_is p marks us w e =
    let all = map (state_of p marks) us in
    let enters = unit_has_begun p marks w || may_open_by p all (state_of p marks w) in
    regrouped (list_any stops marks) (is_settled (result_of p marks w)) (has_open p marks w)
    (fits p all w.node) enters e
    ∙ ap (λ b. ((not (list_any stops marks) && not (has_open p marks w))
    && not (is_settled (result_of p marks w)))
    && ((unit_has_begun p marks w || b) && fits p all w.node)) (may_open_is p marks us w)
    ∙ ap (λ b. ((not (list_any stops marks) && not (has_open p marks w))
    && not (is_settled (result_of p marks w)))
    && ((unit_has_begun p marks w || may_open p us marks w) && b)) (fits_is p marks us w.node)

then_next : {X Y : Type 0} (f : X → Option Y) (b : Bool) (x : X) (o : Option X)
    → option_and_then f (cond b (Some x) o) ≡ cond b (f x) (option_and_then f o)
then_next f true x o = refl
then_next f false x o = refl

-- with what each of these units waits for
among_is : (p : Outline) (marks : List Mark) (us : List WorkUnit) (next : WorkUnit → Option Leaf)
    → list_any stops marks ≡ false → (ws : List WorkUnit)
    → ((w : WorkUnit) → Has ws w → next w ≡ next_leaf p marks w)
    → option_and_then next (first_by p (map (state_of p marks) us) (map (state_of p marks) ws))
    ≡ first_among p us marks ws
among_is p marks us next e [] n = refl
among_is p marks us next e (w ∷ ws) n =
    let all = map (state_of p marks) us in
    let later = first_by p all (map (state_of p marks) ws) in
    then_next next (may_go_by p all (state_of p marks w)) w later
    ∙ ap (λ b. cond b (next w) (option_and_then next later)) (may_go_is p marks us w e)
    ∙ ap (λ o. cond (may_go p us marks w) o (option_and_then next later)) (n w (inl refl))
    ∙ ap (cond (may_go p us marks w) (next_leaf p marks w))
    (among_is p marks us next e ws (λ v h. n v (inr h)))

stopped_among : (p : Outline) (marks : List Mark) (us : List WorkUnit) → list_any stops marks ≡ true
    → (ws : List WorkUnit) → first_among p us marks ws ≡ None
stopped_among p marks us e [] = refl
stopped_among p marks us e (w ∷ ws) =
    ap (λ b. cond (((not b && not (has_open p marks w)) && not (is_settled (result_of p marks w)))
    && ((unit_has_begun p marks w || may_open p us marks w)
    && nat_le (busy_from p us marks w.node 0 p.tiers) p.bound)) (next_leaf p marks w)
    (first_among p us marks ws)) e
    ∙ stopped_among p marks us e ws

by_stop : (p : Outline) (marks : List Mark) (next : WorkUnit → Option Leaf)
    → ((w : WorkUnit) → Has (units_of p) w → next w ≡ next_leaf p marks w)
    → (stop : Bool) → list_any stops marks ≡ stop
    → cond stop None
    (option_and_then next
    (first_by p (map (state_of p marks) (units_of p)) (map (state_of p marks) (units_of p))))
    ≡ first_startable p marks
by_stop p marks next n true e = sym (stopped_among p marks (units_of p) e (units_of p))
by_stop p marks next n false e = among_is p marks (units_of p) next e (units_of p) n

-- a unit waits for what the marks say
next_is : (p : Outline) (marks : List Mark) (k : FlowCache) → IsKept p marks k → (w : WorkUnit)
    → Has (units_of p) w → next_leaf_by p k w ≡ next_leaf p marks w
next_is p marks k kept w has =
    ap (λ c. option_map (λ n. record { node = w.node; slot = n })
    (next_in_steps c p.keepgoing (branches_of (unit_steps p w))))
    (row_says p marks k.leaves w.node kept.leaves (node_below p w has))

-- the leaf that may start next, by what is kept, is that of the marks
pub first_leaf_is : (p : Outline) (marks : List Mark) (k : FlowCache) → IsKept p marks k
    → first_leaf_by p k ≡ first_startable p marks
first_leaf_is p marks k kept =
    ap (λ s. cond k.stopped None (option_and_then (next_leaf_by p k) (first_by p s s))) kept.states
    ∙ by_stop p marks (next_leaf_by p k) (next_is p marks k kept) k.stopped (sym kept.stopped)

begun_or : (opened : Bool) (r : StepResult) → (opened ≡ false → is_settled r ≡ false)
    → (not (is_settled r) || opened) ≡ true
begun_or true r e = or_true (not (is_settled r))
begun_or false r e = ap (λ b. not b || false) (e refl)

-- what is settled is opened
all_begun : (p : Outline) → IsSound p → (marks : List Mark) → IsLegal p marks → (us : List WorkUnit)
    → ((u : WorkUnit) → Has us u → Has (units_of p) u)
    → list_all is_begun (map (state_of p marks) us) ≡ true
all_begun p sound marks legal [] has = refl
all_begun p sound marks legal (u ∷ us) has =
    and_from (is_begun (state_of p marks u)) (list_all is_begun (map (state_of p marks) us))
    (begun_or (unit_has_begun p marks u) (result_of p marks u)
    (λ e. ap is_settled (unopened_undone p sound marks legal u (has u (inl refl)) e)))
    (all_begun p sound marks legal us (λ v h. has v (inr h)))

units_mapped : (p : Outline) (marks : List Mark) (us : List WorkUnit)
    → map (λ s. s.unit) (map (state_of p marks) us) ≡ us
units_mapped p marks [] = refl
units_mapped p marks (u ∷ us) = ap (λ vs. u ∷ vs) (units_mapped p marks us)

-- what is kept can be asked
pub kept_is_ready : (p : Outline) → IsSound p → (marks : List Mark) → IsLegal p marks → (k : FlowCache)
    → IsKept p marks k → IsReady p k
kept_is_ready p sound marks legal k kept = record {
  tally = kept.tally;
  of = record {
    units = ap (map (λ s. s.unit)) kept.states ∙ units_mapped p marks (units_of p);
    nodes = kept.nodes;
    groups = kept.groups;
    tiers = sound.tiers;
    begun = ap (list_all is_begun) kept.states
        ∙ all_begun p sound marks legal (units_of p) (λ u h. h);
  };
  size = kept.leaves.size ∙ ap (λ n. n * p.slots) (sym kept.nodes)
      ∙ ap (λ n. k.tally.nodes * n) (sym kept.leaves.slots);
  cursors = cursors_by p (slot_result marks) (λ node. result_in (row_for k node)) k.cursors.items
      (λ u has. sym (row_says p marks k.leaves u.node kept.leaves (node_below p u has)))
      kept.cursors;
}

chosen_has : (p : Outline) (all ws : List UnitState) (u : WorkUnit) → first_by p all ws ≡ Some u
    → Has (map (λ s. s.unit) ws) u
chosen_has p all [] u e = absurd (cc)
chosen_has p all (w ∷ ws) u e =
    elim (cases_Bool (may_go_by p all w)) [
      | inl goes ↦
          let it : Some w.unit ≡ Some u =
          sym (ap (λ b. cond b (Some w.unit) (first_by p all ws)) goes) ∙ e in
          inl (some_is w.unit u it)
      | inr not ↦
          inr (chosen_has p all ws u
          (sym (ap (λ b. cond b (Some w.unit) (first_by p all ws)) not) ∙ e))
    ]

-- the unit that goes on first is of a node of the plan
pub chosen_node : (p : Outline) (k : FlowCache) (u : WorkUnit) → IsReady p k
    → first_by p k.tally.states.items k.tally.states.items ≡ Some u → u.node < k.tally.nodes
chosen_node p k u ready e =
    let has = chosen_has p k.tally.states.items k.tally.states.items u e in
    let below = node_below p u (subst (λ us. Has us u) ready.of.units has) in
    omega (arith, below, ready.of.nodes)

-- the unit stands at its place
pub record IsPlaced (p : Outline) (k : FlowCache) (u : WorkUnit) : Type 0 where
  pub within : unit_place k.tally.nodes u < length (units_of p)
  pub is : get_or (units_of p) (unit_place k.tally.nodes u) u ≡ u

-- the unit that goes on first is one of the plan's
pub chosen_unit : (p : Outline) (k : FlowCache) (u : WorkUnit) → IsReady p k
    → first_by p k.tally.states.items k.tally.states.items ≡ Some u → IsPlaced p k u
chosen_unit p k u ready e =
    let has = subst (λ us. Has us u) ready.of.units
    (chosen_has p k.tally.states.items k.tally.states.items u e) in
    let at = stands_somewhere (units_of p) u has in
    let place : unit_place k.tally.nodes u ≡ at.0 =
    ap (λ n. unit_place n u) ready.of.nodes
    ∙ ap (unit_place (length p.tiers)) (sym at.2) ∙ unit_at p at.0 u at.1 in
    record {
      within = omega (arith, at.1, place);
      is = ap (λ i. get_or (units_of p) i u) place ∙ at.2;
    }
