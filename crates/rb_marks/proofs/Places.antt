-- A leaf is of one unit of a sound plan.
use Rattle.std.proofs.Common.{◌≡◌, ℕ, ◌+◌, ◌<◌, ◌≤◌, Bool, true, false, ◌⊎◌, inl, inr, nat_eq, zero, suc, Some, cond, List, [], ◌∷◌, ◌++◌, take, drop, length, get_or, sym, ap, ◌∙◌, subst, arith}
use Rattle.std.proofs.lemmas.Bool.{and_parts, eqb-true}
use Rattle.rb_marks.specs.View.{Branch, branches_of}
use Rattle.rb_marks.specs.Units.{Outline, is_node_first, node_units, step_units, units_of, unit_steps, steps_hold, is_of}
use Rattle.rb_marks.specs.Sound.{IsSound, numbered}
use Rattle.rb_marks.specs.declared.mark.Leaf.{Leaf}
use Rattle.rb_marks.specs.declared.units.WorkUnit.{WorkUnit}
use Rattle.rb_marks.proofs.Waits.{Has}
use Rattle.rb_marks.proofs.Numbering.{one_step}

pub has_at : {X : Type 0} (xs : List X) (x : X) (k : ℕ) → k < length xs → get_or xs k x ≡ x
    → Has xs x
has_at [] x k h e = absurd (omega (arith, h))
has_at (y ∷ ys) x zero h e = inl e
has_at (y ∷ ys) x (suc k) h e = inr (has_at ys x k (omega (arith, h)) e)

pub has_either : {X : Type 0} (xs ys : List X) (x : X) → Has (xs ++ ys) x → Has xs x ⊎ Has ys x
has_either [] ys x h = inr h
has_either (y ∷ xs) ys x (inl e) = inl (inl e)
has_either (y ∷ xs) ys x (inr h) =
    elim (has_either xs ys x h) [ inl a ↦ inl (inr a) | inr b ↦ inr b ]

pub node_place : (step n : ℕ) (tiers : List ℕ) (u : WorkUnit) → Has (node_units step n tiers) u
    → (u.step ≡ step) × (n ≤ u.node)
node_place step n [] u h = absurd h
node_place step n (t ∷ ts) u (inl e) =
    (sym (ap (λ v. v.step) e), let same : n ≡ u.node = ap (λ v. v.node) e in omega (arith, same))
node_place step n (t ∷ ts) u (inr h) = let r = node_place step (n + 1) ts u h in
    (r.0, omega (arith, r.1))

-- a node has one unit of a step
node_same : (step n : ℕ) (tiers : List ℕ) (u w : WorkUnit) → Has (node_units step n tiers) u
    → Has (node_units step n tiers) w → u.node ≡ w.node → u ≡ w
node_same step n [] u w h g e = absurd h
node_same step n (t ∷ ts) u w (inl a) (inl b) e = sym a ∙ b
node_same step n (t ∷ ts) u w (inl a) (inr g) e =
    let here : n ≡ u.node = ap (λ v. v.node) a in
    absurd (omega (arith, here, e, (node_place step (n + 1) ts w g).1))
node_same step n (t ∷ ts) u w (inr h) (inl b) e =
    let here : n ≡ w.node = ap (λ v. v.node) b in
    absurd (omega (arith, here, e, (node_place step (n + 1) ts u h).1))
node_same step n (t ∷ ts) u w (inr h) (inr g) e = node_same step (n + 1) ts u w h g e

pub step_place : (tiers : List ℕ) (s : ℕ) (bs : List Branch) (u : WorkUnit)
    → Has (step_units tiers s bs) u → Has (node_units u.step 0 tiers) u
step_place tiers s [] u h = absurd h
step_place tiers s (b ∷ bs) u h =
    elim (has_either (node_units s 0 tiers) (step_units tiers (s + 1) bs) u h) [
      | inl here ↦
          subst (λ k. Has (node_units k 0 tiers) u) (sym (node_place s 0 tiers u here).0) here
      | inr later ↦ step_place tiers (s + 1) bs u later
    ]

same_by : (whole : Bool) (tiers : List ℕ) (steps : List Branch) (slots : ℕ) (u w : WorkUnit) (k : ℕ)
    → numbered (branches_of steps) 0 ≡ Some slots
    → Has (cond whole (node_units 0 0 tiers) (step_units tiers 0 steps)) u
    → Has (cond whole (node_units 0 0 tiers) (step_units tiers 0 steps)) w
    → u.node ≡ w.node
    → steps_hold (branches_of (cond whole steps (take 1 (drop u.step steps)))) k ≡ true
    → steps_hold (branches_of (cond whole steps (take 1 (drop w.step steps)))) k ≡ true → u ≡ w
same_by true tiers steps slots u w k number h g e a b = node_same 0 0 tiers u w h g e
same_by false tiers steps slots u w k number h g e a b =
    let same : w.step ≡ u.step = one_step steps 0 slots number w.step u.step k b a in
    node_same u.step 0 tiers u w (step_place tiers 0 steps u h)
    (subst (λ s. Has (node_units s 0 tiers) w) same (step_place tiers 0 steps w g)) e

-- a leaf is of one unit
pub one_unit : (p : Outline) → IsSound p → (u w : WorkUnit) (leaf : Leaf) → Has (units_of p) u
    → Has (units_of p) w → is_of p u leaf ≡ true → is_of p w leaf ≡ true → u ≡ w
one_unit p sound u w leaf h g a b =
    let x = and_parts (nat_eq leaf.node u.node)
    (steps_hold (branches_of (unit_steps p u)) leaf.slot) a in
    let y = and_parts (nat_eq leaf.node w.node)
    (steps_hold (branches_of (unit_steps p w)) leaf.slot) b in
    same_by (is_node_first p.strategy) p.tiers p.steps p.slots u w leaf.slot sound.slots h g
    (sym (eqb-true leaf.node u.node x.0) ∙ eqb-true leaf.node w.node y.0) x.1 y.1
