-- Where the unit of a step and a node lies among the units of a plan.
use Rattle.std.proofs.Common.{◌≡◌, ℕ, ◌+◌, ◌*◌, ◌<◌, ◌≤◌, Bool, true, false, inl, inr, zero, suc, nat_le, cond, List, [], ◌∷◌, ◌++◌, length, sym, ap, ◌∙◌, subst, arith, refl, append-nil}
use Rattle.std.proofs.lemmas.Bool.{and_parts, leb-true}
use Rattle.rb_marks.specs.View.{Branch}
use Rattle.rb_marks.specs.Units.{Outline, is_node_first, node_units, step_units, units_of}
use Rattle.rb_marks.specs.Sound.{never_fall}
use Rattle.rb_marks.specs.declared.units.WorkUnit.{WorkUnit}
use Rattle.rb_flow.specs.declared.unit_state.UnitState.{UnitState}
use Rattle.rb_flow.specs.declared.tally.Tally.{Tally}
use Rattle.rb_flow.specs.Tally.{IsTallyOf, group_count}
use Rattle.rb_flow.proofs.Seats.{At, at_either, at_less, at_map}

-- so many steps from s on, each on all nodes
abbrev grid : List ℕ → ℕ → ℕ → List WorkUnit
grid tiers s zero = []
grid tiers s (suc n) = node_units s 0 tiers ++ grid tiers (s + 1) n

steps_grid : (tiers : List ℕ) (s : ℕ) (bs : List Branch) → step_units tiers s bs
    ≡ grid tiers s (length bs)
steps_grid tiers s [] = refl
steps_grid tiers s (b ∷ bs) = ap (λ us. node_units s 0 tiers ++ us) (steps_grid tiers (s + 1) bs)

by_flag : (whole : Bool) (tiers : List ℕ) (bs : List Branch)
    → cond whole (node_units 0 0 tiers) (step_units tiers 0 bs)
    ≡ grid tiers 0 (cond whole 1 (length bs))
by_flag true tiers bs = sym (append-nil (node_units 0 0 tiers))
by_flag false tiers bs = steps_grid tiers 0 bs

units_grid : (p : Outline) → units_of p ≡ grid p.tiers 0 (group_count p)
units_grid p = by_flag (is_node_first p.strategy) p.tiers p.steps

length-node_units : (step n : ℕ) (tiers : List ℕ) → length (node_units step n tiers)
    ≡ length tiers
length-node_units step n [] = refl
length-node_units step n (t ∷ ts) = ap suc (length-node_units step (n + 1) ts)

node_at : (step n : ℕ) (tiers : List ℕ) (k : ℕ) (u : WorkUnit) → At (node_units step n tiers) k u
    → (u.step ≡ step) × (u.node ≡ n + k) × At tiers k u.tier
node_at step n [] k u h = absurd h
node_at step n (t ∷ ts) zero u h = (
  sym (ap (λ v. v.step) h),
  let e : n ≡ u.node = ap (λ v. v.node) h in omega (arith, e),
  ap (λ v. v.tier) h,
)
node_at step n (t ∷ ts) (suc k) u h = let r = node_at step (n + 1) ts k u h in
    (r.0, let e = r.1 in omega (arith, e), r.2)

row_more : (s n : ℕ) → (s + 1) * n ≡ n + s * n
row_more s n = omega arith

grid_at : (tiers : List ℕ) (s c i : ℕ) (u : WorkUnit) → At (grid tiers s c) i u
    → (s ≤ u.step) × (u.step < s + c) × (u.node < length tiers)
    × (i + s * length tiers ≡ u.step * length tiers + u.node) × At tiers u.node u.tier
grid_at tiers s zero i u h = absurd h
grid_at tiers s (suc c) i u h =
    elim (at_either (node_units s 0 tiers) (grid tiers (s + 1) c) i u h) [
      | inl here ↦
          let r = node_at s 0 tiers i u here in
          let step : u.step ≡ s = r.0 in
          let node : u.node ≡ i = r.1 ∙ omega arith in
          let less = at_less tiers i u.tier r.2 in (
            omega (arith, step),
            omega (arith, step),
            omega (arith, node, less),
            rw (step, node) (omega arith),
            subst (λ k. At tiers k u.tier) (sym node) r.2,
          )
      | inr later ↦
          let r = grid_at tiers (s + 1) c later.0 u later.2 in
          let e = later.1 in
          let l = length-node_units s 0 tiers in
          let m = row_more s (length tiers) in
          let a = r.0 in let b = r.1 in let place = r.3 in
          (omega (arith, a), omega (arith, b), r.2, omega (arith, place, e, l, m), r.4)
    ]

-- where the unit lies, and its tier
pub record IsSeat (n groups : ℕ) (tiers : List ℕ) (i : ℕ) (u : WorkUnit) : Type 0 where
  pub step : u.step < groups
  pub node : u.node < n
  pub place : i ≡ u.step * n + u.node
  pub tier : At tiers u.node u.tier

abbrev unit_of : UnitState → WorkUnit
unit_of s = s.unit

pub seat : (p : Outline) (t : Tally) → IsTallyOf p t → (i : ℕ) (s : UnitState)
    → At t.states.items i s → IsSeat t.nodes (length t.groups.items) p.tiers i s.unit
seat p t of i s h =
    let units = of.units ∙ units_grid p in
    let u = subst (λ us. At us i s.unit) units (at_map unit_of t.states.items i s h) in
    let r = grid_at p.tiers 0 (group_count p) i s.unit u in
    record {
      step = let b = r.1 in let g = of.groups in omega (arith, b, g);
      node = let b = r.2 in let g = of.nodes in omega (arith, b, g);
      place = rw of.nodes (let b = r.3 in omega (arith, b));
      tier = r.4;
    }

least : (t : ℕ) (ts : List ℕ) (k b : ℕ) → never_fall (t ∷ ts) ≡ true → At ts k b → t ≤ b
least t [] k b e h = absurd h
least t (x ∷ xs) zero b e h =
    let l = leb-true t x (and_parts _ _ e).0 in let same : x ≡ b = h in omega (arith, l, same)
least t (x ∷ xs) (suc k) b e h =
    let parts = and_parts (nat_le t x) (never_fall (x ∷ xs)) e in
    let l = leb-true t x parts.0 in let r = least x xs k b parts.1 h in omega (arith, l, r)

rest_rises : (t : ℕ) (ts : List ℕ) → never_fall (t ∷ ts) ≡ true → never_fall ts ≡ true
rest_rises t [] e = refl
rest_rises t (x ∷ ts) e = (and_parts _ _ e).1

-- tiers never fall from place to place
pub tiers_rise : (tiers : List ℕ) (k l a b : ℕ) → never_fall tiers ≡ true → At tiers k a
    → At tiers l b → k ≤ l → a ≤ b
tiers_rise [] k l a b e h g x = absurd h
tiers_rise (t ∷ ts) zero zero a b e h g x =
    let p : t ≡ a = h in let q : t ≡ b = g in omega (arith, p, q)
tiers_rise (t ∷ ts) zero (suc l) a b e h g x =
    let p : t ≡ a = h in let r = least t ts l b e g in omega (arith, p, r)
tiers_rise (t ∷ ts) (suc k) zero a b e h g x = absurd (omega (arith, x))
tiers_rise (t ∷ ts) (suc k) (suc l) a b e h g x =
    tiers_rise ts k l a b (rest_rises t ts e) h g (omega (arith, x))
