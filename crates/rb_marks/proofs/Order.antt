-- What a unit waits for comes earlier: in an earlier step, or on an earlier node of its step.
use Rattle.std.proofs.Common.{◌≡◌, ℕ, ◌+◌, ◌<◌, ◌≤◌, true, ◌&&◌, ◌⊎◌, inl, inr, nat_eq, nat_le, nat_lt, cond, List, [], ◌∷◌, sym, ap, ◌∙◌, subst, arith, refl}
use Rattle.std.proofs.lemmas.Bool.{and_parts, or_cases, eqb-true, ltb-true, leb-true}
use Rattle.rb_marks.specs.View.{Branch}
use Rattle.rb_marks.specs.Units.{Outline, is_node_first, node_units, step_units, units_of, same_group, before, ahead}
use Rattle.rb_marks.specs.Sound.{IsSound, never_fall}
use Rattle.rb_marks.specs.declared.plan.Strategy.{Strategy}
use Rattle.rb_marks.specs.declared.plan.Strategy.TheVariants.{NodeFirst, Sequential, Parallel}
use Rattle.rb_marks.specs.declared.units.WorkUnit.{WorkUnit}
use Rattle.rb_marks.proofs.Waits.{Has}
use Rattle.rb_marks.proofs.Places.{node_place, step_place}

abbrev pub IsEarlier : WorkUnit → WorkUnit → Type 0
IsEarlier u w = (u.step < w.step) ⊎ ((u.step ≡ w.step) × (u.node < w.node))

rest_rises : (t : ℕ) (ts : List ℕ) → never_fall (t ∷ ts) ≡ true → never_fall ts ≡ true
rest_rises t [] e = refl
rest_rises t (x ∷ ts) e = (and_parts (nat_le t x) (never_fall (x ∷ ts)) e).1

tier_above : (step n t : ℕ) (ts : List ℕ) (u : WorkUnit) → never_fall (t ∷ ts) ≡ true
    → Has (node_units step n ts) u → t ≤ u.tier
tier_above step n t [] u e h = absurd h
tier_above step n t (x ∷ ts) u e (inl same) =
    let here : x ≡ u.tier = ap (λ v. v.tier) same in
    omega (arith, here, leb-true t x (and_parts (nat_le t x) (never_fall (x ∷ ts)) e).0)
tier_above step n t (x ∷ ts) u e (inr h) =
    omega (
      arith,
      tier_above step (n + 1) x ts u
          (and_parts (nat_le t x) (never_fall (x ∷ ts)) e).1 h,
      leb-true t x
          (and_parts (nat_le t x) (never_fall (x ∷ ts)) e).0,
    )

-- a lower tier is of an earlier node
node_rises : (step n : ℕ) (tiers : List ℕ) (u w : WorkUnit) → never_fall tiers ≡ true
    → Has (node_units step n tiers) u → Has (node_units step n tiers) w → u.tier < w.tier
    → u.node < w.node
node_rises step n [] u w f h g e = absurd h
node_rises step n (t ∷ ts) u w f (inl a) (inl b) e =
    let x : t ≡ u.tier = ap (λ v. v.tier) a in
    let y : t ≡ w.tier = ap (λ v. v.tier) b in
    absurd (omega (arith, x, y, e))
node_rises step n (t ∷ ts) u w f (inl a) (inr g) e = let here : n ≡ u.node = ap (λ v. v.node) a in
    omega (arith, here, (node_place step (n + 1) ts w g).1)
node_rises step n (t ∷ ts) u w f (inr h) (inl b) e = let y : t ≡ w.tier = ap (λ v. v.tier) b in
    absurd (omega (arith, y, e, tier_above step (n + 1) t ts u f h))
node_rises step n (t ∷ ts) u w f (inr h) (inr g) e =
    node_rises step (n + 1) ts u w (rest_rises t ts f) h g e

in_step : (tiers : List ℕ) (steps : List Branch) (u w : WorkUnit) → never_fall tiers ≡ true
    → Has (step_units tiers 0 steps) u → Has (step_units tiers 0 steps) w
    → (nat_eq u.step w.step && nat_lt u.tier w.tier) ≡ true → IsEarlier u w
in_step tiers steps u w f h g e =
    let parts = and_parts (nat_eq u.step w.step) (nat_lt u.tier w.tier) e in
    let same : u.step ≡ w.step = eqb-true u.step w.step parts.0 in
    inr (
      same,
      node_rises w.step 0 tiers u w f
          (subst (λ s. Has (node_units s 0 tiers) u) same (step_place tiers 0 steps u h))
          (step_place tiers 0 steps w g) (ltb-true u.tier w.tier parts.1),
    )

before_by : (strategy : Strategy) (tiers : List ℕ) (steps : List Branch) (u w : WorkUnit)
    → never_fall tiers ≡ true
    → Has (cond (is_node_first strategy) (node_units 0 0 tiers) (step_units tiers 0 steps)) u
    → Has (cond (is_node_first strategy) (node_units 0 0 tiers) (step_units tiers 0 steps)) w
    → before strategy u w ≡ true → IsEarlier u w
before_by NodeFirst tiers steps u w f h g e =
    inr (
      (node_place 0 0 tiers u h).0
          ∙ sym (node_place 0 0 tiers w g).0,
      node_rises 0 0 tiers u w f h g
          (ltb-true u.tier w.tier e),
    )
before_by Sequential tiers steps u w f h g e =
    elim (or_cases (nat_lt u.step w.step) (nat_eq u.step w.step && nat_lt u.tier w.tier) e) [
      | inl less ↦ inl (ltb-true u.step w.step less)
      | inr same ↦ in_step tiers steps u w f h g same
    ]
before_by Parallel tiers steps u w f h g e = in_step tiers steps u w f h g e

in_group : (strategy : Strategy) (tiers : List ℕ) (steps : List Branch) (u w : WorkUnit)
    → Has (cond (is_node_first strategy) (node_units 0 0 tiers) (step_units tiers 0 steps)) u
    → Has (cond (is_node_first strategy) (node_units 0 0 tiers) (step_units tiers 0 steps)) w
    → same_group strategy u w ≡ true → u.step ≡ w.step
in_group NodeFirst tiers steps u w h g e =
    (node_place 0 0 tiers u h).0 ∙ sym (node_place 0 0 tiers w g).0
in_group Sequential tiers steps u w h g e = eqb-true u.step w.step e
in_group Parallel tiers steps u w h g e = eqb-true u.step w.step e

pub before_earlier : (p : Outline) → IsSound p → (u w : WorkUnit) → Has (units_of p) u
    → Has (units_of p) w → before p.strategy u w ≡ true → IsEarlier u w
before_earlier p sound u w h g e = before_by p.strategy p.tiers p.steps u w sound.tiers h g e

pub ahead_earlier : (p : Outline) (u w : WorkUnit) → Has (units_of p) u → Has (units_of p) w
    → ahead p.strategy u w ≡ true → IsEarlier u w
ahead_earlier p u w h g e =
    let parts = and_parts (same_group p.strategy u w) (nat_lt u.node w.node) e in
    inr (in_group p.strategy p.tiers p.steps u w h g parts.0, ltb-true u.node w.node parts.1)
