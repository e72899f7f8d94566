-- Where the units of a plan stand, and what becomes of a list of them where one changes.
use Rattle.std.proofs.Common.{◌≡◌, ℕ, ◌+◌, ◌-◌, ◌*◌, ◌<◌, Bool, true, false, List, [], ◌∷◌, ◌++◌, length, get_or, set, map, cond, zero, suc, ap, ◌∙◌, arith, refl, inl, inr, zero-add, length-append}
use Rattle.std.proofs.lemmas.Bool.{cases_lt}
use Rattle.std.proofs.lemmas.List.{get_or_append_left, get_or-append_right}
use Rattle.rb_marks.specs.View.{Branch}
use Rattle.rb_marks.specs.Units.{Outline, node_units, step_units, units_of, is_node_first}
use Rattle.rb_marks.specs.declared.units.WorkUnit.{WorkUnit}
use Rattle.rb_marks.proofs.Places.{has_either}
use Rattle.rb_marks.proofs.Waits.{Has}
use Rattle.rb_flow.specs.Kept.{unit_place}
use Rattle.rb_flow.specs.Tally.{group_count}

node_at : (step n : ℕ) (tiers : List ℕ) (i : ℕ) (d : WorkUnit) → i < length tiers
    → ((get_or (node_units step n tiers) i d).step ≡ step)
    × ((get_or (node_units step n tiers) i d).node ≡ n + i)
node_at step n [] i d h = absurd (omega (arith, h))
node_at step n (t ∷ ts) zero d h = (refl, omega arith)
node_at step n (t ∷ ts) (suc i) d h =
    let r = node_at step (n + 1) ts i d (omega (arith, h)) in
    let e = r.1 in (r.0, omega (arith, e))

node_count : (step n : ℕ) (tiers : List ℕ) → length (node_units step n tiers) ≡ length tiers
node_count step n [] = refl
node_count step n (t ∷ ts) = ap suc (node_count step (n + 1) ts)

more_rows : (s n : ℕ) → (s + 1) * n ≡ s * n + n
more_rows s n = grind arith

step_unit_at : (tiers : List ℕ) (s : ℕ) (bs : List Branch) (i : ℕ) (d : WorkUnit)
    → i < length (step_units tiers s bs)
    → unit_place (length tiers) (get_or (step_units tiers s bs) i d) ≡ s * length tiers + i
step_unit_at tiers s [] i d h = absurd (omega (arith, h))
step_unit_at tiers s (b ∷ bs) i d h =
    let row = node_units s 0 tiers in
    let rest = step_units tiers (s + 1) bs in
    let n = length tiers in
    let len : length row ≡ n = node_count s 0 tiers in
    elim (cases_lt i n) [
      | inl near ↦
          let here : get_or (row ++ rest) i d ≡ get_or row i d =
          get_or_append_left row rest d i (omega (arith, near, len)) in
          let r = node_at s 0 tiers i d near in
          ap (unit_place n) here ∙ ap (λ k. k * n + (get_or row i d).node) r.0
          ∙ ap (λ k. s * n + k) (r.1 ∙ zero-add i)
      | inr far ↦
          let there : get_or (row ++ rest) i d ≡ get_or rest (i - n) d =
          get_or-append_right row rest n i d len far in
          let longer : length (row ++ rest) ≡ length row + length rest = length-append row rest in
          let r = step_unit_at tiers (s + 1) bs (i - n) d (omega (arith, h, far, longer, len)) in
          let more = more_rows s n in
          ap (unit_place n) there ∙ omega (arith, r, more, far)
    ]

zero_row : (n i : ℕ) → 0 * n + (0 + i) ≡ i
zero_row n i = grind arith

unit_at_by : (whole : Bool) (tiers : List ℕ) (steps : List Branch) (i : ℕ) (d : WorkUnit)
    → i < length (cond whole (node_units 0 0 tiers) (step_units tiers 0 steps))
    → unit_place (length tiers)
    (get_or (cond whole (node_units 0 0 tiers) (step_units tiers 0 steps)) i d) ≡ i
unit_at_by true tiers steps i d h =
    let len = node_count 0 0 tiers in
    let r = node_at 0 0 tiers i d (omega (arith, h, len)) in
    let row : List WorkUnit = node_units 0 0 tiers in
    let it : unit_place (length tiers) (get_or row i d) ≡ i =
    ap (λ k. k * length tiers + (get_or row i d).node) r.0
    ∙ ap (λ k. 0 * length tiers + k) r.1 ∙ zero_row (length tiers) i in
    it
unit_at_by false tiers steps i d h =
    let it = step_unit_at tiers 0 steps i d h in grind (arith, it)

-- a unit stands at its place
pub unit_at : (p : Outline) (i : ℕ) (d : WorkUnit) → i < length (units_of p)
    → unit_place (length p.tiers) (get_or (units_of p) i d) ≡ i
unit_at p i d h = unit_at_by (is_node_first p.strategy) p.tiers p.steps i d h

step_grid : (tiers : List ℕ) (s : ℕ) (bs : List Branch) (g k : ℕ) (d : WorkUnit) → g < length bs
    → k < length tiers → (get_or (step_units tiers s bs) (g * length tiers + k) d).node ≡ k
step_grid tiers s [] g k d h l = absurd (omega (arith, h))
step_grid tiers s (b ∷ bs) zero k d h l =
    let row = node_units s 0 tiers in
    let rest = step_units tiers (s + 1) bs in
    let len : length row ≡ length tiers = node_count s 0 tiers in
    let first : 0 * length tiers + k ≡ k = grind arith in
    ap (λ i. (get_or (row ++ rest) i d).node) first
    ∙ ap (λ u. u.node) (get_or_append_left row rest d k (omega (arith, l, len)))
    ∙ (node_at s 0 tiers k d l).1 ∙ zero-add k
step_grid tiers s (b ∷ bs) (suc g) k d h l =
    let row = node_units s 0 tiers in
    let rest = step_units tiers (s + 1) bs in
    let n = length tiers in
    let len : length row ≡ n = node_count s 0 tiers in
    let i = suc g * n + k in
    let more : suc g * n ≡ g * n + n = grind arith in
    let back : i - n ≡ g * n + k = omega (arith, more) in
    ap (λ u. u.node) (get_or-append_right row rest n i d len (omega (arith, more)))
    ∙ ap (λ j. (get_or rest j d).node) back ∙ step_grid tiers (s + 1) bs g k d (omega (arith, h)) l

grid_by : (whole : Bool) (tiers : List ℕ) (steps : List Branch) (g k : ℕ) (d : WorkUnit)
    → g < cond whole 1 (length steps) → k < length tiers
    → (get_or (cond whole (node_units 0 0 tiers) (step_units tiers 0 steps))
    (g * length tiers + k) d).node ≡ k
grid_by true tiers steps g k d h l =
    let none : g ≡ 0 = omega (arith, h) in
    let first : g * length tiers + k ≡ k = ap (λ j. j * length tiers + k) none ∙ grind arith in
    let row : List WorkUnit = node_units 0 0 tiers in
    let it : (get_or row (g * length tiers + k) d).node ≡ k =
    ap (λ i. (get_or row i d).node) first ∙ (node_at 0 0 tiers k d l).1 ∙ zero-add k in
    it
grid_by false tiers steps g k d h l = step_grid tiers 0 steps g k d h l

-- the node of a unit tells its place in its group
pub node_in_grid : (p : Outline) (g k : ℕ) (d : WorkUnit) → g < group_count p → k < length p.tiers
    → (get_or (units_of p) (g * length p.tiers + k) d).node ≡ k
node_in_grid p g k d h l = grid_by (is_node_first p.strategy) p.tiers p.steps g k d h l

nodes_below : (step n : ℕ) (tiers : List ℕ) (u : WorkUnit) → Has (node_units step n tiers) u
    → u.node < n + length tiers
nodes_below step n [] u h = absurd h
nodes_below step n (t ∷ ts) u h = elim h [
  | inl same ↦ let e : n ≡ u.node = ap (λ v. v.node) same in omega (arith, e)
  | inr later ↦ let r = nodes_below step (n + 1) ts u later in omega (arith, r)
]

step_nodes_below : (tiers : List ℕ) (s : ℕ) (bs : List Branch) (u : WorkUnit)
    → Has (step_units tiers s bs) u → u.node < length tiers
step_nodes_below tiers s [] u h = absurd h
step_nodes_below tiers s (b ∷ bs) u h =
    elim (has_either (node_units s 0 tiers) (step_units tiers (s + 1) bs) u h) [
      | inl here ↦ let r = nodes_below s 0 tiers u here in omega (arith, r)
      | inr later ↦ step_nodes_below tiers (s + 1) bs u later
    ]

below_by : (whole : Bool) (tiers : List ℕ) (steps : List Branch) (u : WorkUnit)
    → Has (cond whole (node_units 0 0 tiers) (step_units tiers 0 steps)) u → u.node < length tiers
below_by true tiers steps u h = let r = nodes_below 0 0 tiers u h in omega (arith, r)
below_by false tiers steps u h = step_nodes_below tiers 0 steps u h

-- a unit is of a node of the plan
pub node_below : (p : Outline) (u : WorkUnit) → Has (units_of p) u → u.node < length p.tiers
node_below p u h = below_by (is_node_first p.strategy) p.tiers p.steps u h

-- what stands in a list is one of it
pub has_there : {X : Type 0} (xs : List X) (i : ℕ) (d : X) → i < length xs → Has xs (get_or xs i d)
has_there [] i d h = absurd (omega (arith, h))
has_there (x ∷ xs) zero d h = inl refl
has_there (x ∷ xs) (suc i) d h = inr (has_there xs i d (omega (arith, h)))

-- the functions agree on the list
pub map_same : {X Y : Type 0} (f g : X → Y) (xs : List X) → ((x : X) → Has xs x → f x ≡ g x)
    → map f xs ≡ map g xs
map_same f g [] e = refl
map_same f g (x ∷ xs) e =
    ap (λ y. y ∷ map f xs) (e x (inl refl))
    ∙ ap (λ ys. g x ∷ ys) (map_same f g xs (λ y h. e y (inr h)))

map_at_all : {X Y : Type 0} (f g : X → Y) (xs : List X) (d : X)
    → ((j : ℕ) → j < length xs → g (get_or xs j d) ≡ f (get_or xs j d)) → map g xs ≡ map f xs
map_at_all f g [] d e = refl
map_at_all f g (x ∷ xs) d e =
    ap (λ y. y ∷ map g xs) (e 0 (omega arith))
    ∙ ap (λ ys. f x ∷ ys) (map_at_all f g xs d (λ j l. e (suc j) (omega (arith, l))))

-- the functions agree on the list but at one place
pub map_but_one : {X Y : Type 0} (f g : X → Y) (xs : List X) (i : ℕ) (d : X) → i < length xs
    → ((j : ℕ) → j < length xs → (j ≡ i → ⊥) → g (get_or xs j d) ≡ f (get_or xs j d))
    → map g xs ≡ set (map f xs) i (g (get_or xs i d))
map_but_one f g [] i d h e = absurd (omega (arith, h))
map_but_one f g (x ∷ xs) zero d h e =
    ap (λ ys. g x ∷ ys) (map_at_all f g xs d (λ j l. e (suc j) (omega (arith, l)) (λ z. omega (arith, z))))
map_but_one f g (x ∷ xs) (suc i) d h e =
    ap (λ y. y ∷ map g xs) (e 0 (omega arith) (λ z. omega (arith, z)))
    ∙ ap (λ ys. f x ∷ ys)
    (map_but_one f g xs i d (omega (arith, h))
    (λ j l n. e (suc j) (omega (arith, l)) (λ z. n (omega (arith, z)))))

-- what is one of a list stands somewhere in it
pub stands_somewhere : {X : Type 0} (xs : List X) (x : X) → Has xs x
    → (i : ℕ) × (i < length xs) × (get_or xs i x ≡ x)
stands_somewhere [] x h = absurd h
stands_somewhere (y ∷ ys) x h = elim h [
  | inl same ↦ (0, omega arith, same)
  | inr later ↦
      let r = stands_somewhere ys x later in (suc r.0, (let b = r.1 in omega (arith, b)), r.2)
]
