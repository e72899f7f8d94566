-- The first startable leaf of a drill's plan is one of its nodes and steps.
use Rattle.std.proofs.Common.{◌≡◌, ◌<◌, ℕ, suc, ◌+◌, Bool, true, false, ◌||◌, List, [], ◌∷◌, length, ap, sym, subst, arith, Option, Some, None, option_map, if◌then◌else◌}
use Rattle.rb_marks.specs.First.{first_startable, first_among, may_go, next_leaf, next_in_steps, or_later, waits_for}
use Rattle.rb_marks.specs.Results.{handled, slot_result}
use Rattle.rb_marks.specs.Units.{node_units}
use Rattle.rb_marks.specs.View.{branches_of}
use Rattle.rb_marks.specs.declared.mark.Leaf.{Leaf}
use Rattle.rb_marks.specs.declared.mark.Mark.{Mark}
use Rattle.rb_marks.specs.declared.mark.StepResult.{StepResult}
use Rattle.rb_marks.specs.declared.mark.StepResult.TheVariants.{Undone, Good, Bad}
use Rattle.rb_marks.specs.declared.units.WorkUnit.{WorkUnit}
use Rattle.rb_top.specs.Drill.{drill_plan, zeros, branches_from}
use Rattle.rb_top.specs.declared.script.DrillJob.{DrillJob}

-- each of these units is of a node below
abbrev EachBelow : ℕ → List WorkUnit → Type 0
EachBelow nodes [] = Unit {0}
EachBelow nodes (w ∷ ws) = (w.node < nodes) × EachBelow nodes ws

units_below : (step n : ℕ) (nodes : List (List ℕ)) → EachBelow (n + length nodes) (node_units step n (zeros nodes))
units_below step n [] = tt
units_below step n (x ∷ xs) =
    (omega arith, subst (λ m. EachBelow m (node_units step (n + 1) (zeros xs))) (omega arith) (units_below step (n + 1) xs))

slot_or : (r : StepResult) (keepgoing : Bool) (n m left : ℕ) (later : Option ℕ) → (later ≡ Some m → m < (n + 1) + left)
    → or_later (handled r None (keepgoing || false)) keepgoing (waits_for r (Some n) None) later ≡ Some m → m < n + suc left
slot_or Undone keepgoing n m left later rest found = let same : n ≡ m = cc in omega arith
slot_or Good keepgoing n m left later rest found = let below = rest found in omega arith
slot_or Bad true n m left later rest found = let below = rest found in omega arith
slot_or Bad false n m left later rest found = cc

-- a command's place is one of the steps
slot_within : (command : ℕ → StepResult) (keepgoing : Bool) (n m : ℕ) (steps : List (List (List ℕ))) → next_in_steps command keepgoing (branches_of (branches_from n steps)) ≡ Some m → m < n + length steps
slot_within command keepgoing n m [] found = cc
slot_within command keepgoing n m (x ∷ xs) found =
    slot_or (command n) keepgoing n m (length xs) (next_in_steps command keepgoing (branches_of (branches_from (n + 1) xs))) (slot_within command keepgoing (n + 1) m xs) found

leaf_of : (node : ℕ) (found : Option ℕ) (leaf : Leaf) → option_map (λ n. record { node = node; slot = n }) found ≡ Some leaf → (leaf.node ≡ node) × (found ≡ Some leaf.slot)
leaf_of node None leaf e = cc
leaf_of node (Some n) leaf e =
    let same : record { node = node; slot = n } ≡ leaf = cc in
    (ap (λ (l : Leaf). l.node) (sym same), ap (λ (l : Leaf). Some l.slot) same)

at_test : {P : Type 0} {leaf : Leaf} (test : Bool) (here later : Option Leaf) → (here ≡ Some leaf → P) → (later ≡ Some leaf → P) → (if test then here else later) ≡ Some leaf → P
at_test true here later yes_case no_case found = yes_case found
at_test false here later yes_case no_case found = no_case found

module _ (nodes : List (List ℕ)) (job : DrillJob) (marks : List Mark) where
  next_within : (w : WorkUnit) (leaf : Leaf) → w.node < length nodes → next_leaf (drill_plan nodes job) marks w ≡ Some leaf → (leaf.node < length nodes) × (leaf.slot < length job.steps)
  next_within w leaf below found =
      let parts = leaf_of w.node (next_in_steps (slot_result marks w.node) false (branches_of (branches_from 0 job.steps))) leaf found in
      let slot = slot_within (slot_result marks w.node) false 0 leaf.slot job.steps parts.1 in
      (rw parts.0 below, omega (arith, slot))

  among_within : (all ws : List WorkUnit) (leaf : Leaf) → EachBelow (length nodes) ws → first_among (drill_plan nodes job) all marks ws ≡ Some leaf
      → (leaf.node < length nodes) × (leaf.slot < length job.steps)
  among_within all [] leaf below found = cc
  among_within all (w ∷ ws) leaf below found =
      at_test (may_go (drill_plan nodes job) all marks w) (next_leaf (drill_plan nodes job) marks w) (first_among (drill_plan nodes job) all marks ws)
      (λ here. next_within w leaf below.0 here) (λ later. among_within all ws leaf below.1 later) found

pub first_within : (nodes : List (List ℕ)) (job : DrillJob) (marks : List Mark) (leaf : Leaf) → first_startable (drill_plan nodes job) marks ≡ Some leaf
    → (leaf.node < length nodes) × (leaf.slot < length job.steps)
first_within nodes job marks leaf found =
    among_within nodes job marks (node_units 0 0 (zeros nodes)) (node_units 0 0 (zeros nodes)) leaf
    (subst (λ m. EachBelow m (node_units 0 0 (zeros nodes))) (omega arith) (units_below 0 0 nodes)) found
