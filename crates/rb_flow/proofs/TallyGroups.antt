-- What is counted of each group, with one unit set.
use Rattle.std.proofs.Common.{◌≡◌, ℕ, ◌+◌, ◌*◌, ◌<◌, ◌≤◌, Bool, true, false, cond, List, [], ◌∷◌, length, get_or, set, take, drop, arith, refl, ap, sym, ◌∙◌, zero, suc, suc-mul, zero-mul, inl, inr}
use Rattle.std.proofs.Math.Seq.{take-set-lt}
use Rattle.std.specs.List.{prefix_len}
use Rattle.std.proofs.lemmas.List.{take-set-le, drop-set-lt, drop-set-add, drop-drop}
use Rattle.std.proofs.lemmas.List.Sums.{prefix_len-le-length, prefix_len_passes, prefix_len_stops}
use Rattle.std.proofs.lemmas.Bool.{cases_lt}
use Rattle.rb_flow.specs.Tally.{is_passed, leading, group_of, groups_of}
use Rattle.rb_flow.specs.declared.unit_state.UnitState.{UnitState}
use Rattle.rb_flow.specs.declared.group_state.GroupState.{GroupState}

pub groups_length : (nodes n : ℕ) (xs : List UnitState) → length (groups_of nodes n xs) ≡ n
groups_length nodes zero xs = refl
groups_length nodes (suc n) xs = ap suc (groups_length nodes n (drop nodes xs))

-- the units of a group
abbrev pub group_units : ℕ → ℕ → List UnitState → List UnitState
group_units nodes group xs = take nodes (drop (group * nodes) xs)

next_start : (nodes g : ℕ) → nodes + g * nodes ≡ suc g * nodes
next_start nodes g = omega (arith, suc-mul g nodes)

first_units : (nodes : ℕ) (xs : List UnitState) → take nodes xs ≡ group_units nodes 0 xs
first_units nodes xs = ap (λ n. take nodes (drop n xs)) (sym (zero-mul nodes))

next_units : (nodes g : ℕ) (xs : List UnitState)
    → group_units nodes g (drop nodes xs) ≡ group_units nodes (suc g) xs
next_units nodes g xs =
    ap (take nodes) (drop-drop (g * nodes) nodes xs ∙ ap (λ n. drop n xs) (next_start nodes g))

pub groups_read : (nodes n : ℕ) (xs : List UnitState) (g : ℕ) (d : GroupState) → g < n
    → get_or (groups_of nodes n xs) g d ≡ group_of (group_units nodes g xs)
groups_read nodes zero xs g d h = absurd (omega (arith, h))
groups_read nodes (suc n) xs zero d h = ap group_of (first_units nodes xs)
groups_read nodes (suc n) xs (suc g) d h =
    groups_read nodes n (drop nodes xs) g d (omega (arith, h))
    ∙ ap group_of (next_units nodes g xs)

-- only the unit's group changes
pub groups_set : (nodes n : ℕ) (xs : List UnitState) (g k place : ℕ) (y : UnitState)
    → place ≡ g * nodes + k → k < nodes → g < n
    → groups_of nodes n (set xs place y)
    ≡ set (groups_of nodes n xs) g (group_of (group_units nodes g (set xs place y)))
groups_set nodes zero xs g k place y e less h = absurd (omega (arith, h))
groups_set nodes (suc n) xs zero k place y e less h =
    let behind = drop-set-lt nodes xs place y (omega (arith, e, less, zero-mul nodes)) in
    ap (λ units. group_of units ∷ groups_of nodes n (drop nodes (set xs place y)))
    (first_units nodes (set xs place y))
    ∙ ap (λ rest. group_of (group_units nodes 0 (set xs place y)) ∷ groups_of nodes n rest) behind
groups_set nodes (suc n) xs (suc g) k place y e less h =
    let at = g * nodes + k in
    let here : place ≡ nodes + at = omega (arith, e, suc-mul g nodes) in
    let first = take-set-le nodes xs place y (omega (arith, here)) in
    let later : drop nodes (set xs place y) ≡ set (drop nodes xs) at y =
    ap (λ p. drop nodes (set xs p y)) here ∙ drop-set-add nodes xs at y in
    ap (λ units. group_of units ∷ groups_of nodes n (drop nodes (set xs place y))) first
    ∙ ap (λ rest. group_of (take nodes xs) ∷ groups_of nodes n rest) later
    ∙ ap (λ groups. group_of (take nodes xs) ∷ groups)
    (groups_set nodes n (drop nodes xs) g k at y refl less (omega (arith, h))
    ∙ ap (λ units. set (groups_of nodes n (drop nodes xs)) g (group_of units))
    (ap (group_units nodes g) (sym later) ∙ next_units nodes g (set xs place y)))

-- the units of a group with one set
pub units_set : (nodes g k place : ℕ) (xs : List UnitState) (y : UnitState)
    → place ≡ g * nodes + k → k < nodes
    → group_units nodes g (set xs place y) ≡ set (group_units nodes g xs) k y
units_set nodes g k place xs y e less =
    ap (λ p. take nodes (drop (g * nodes) (set xs p y))) e
    ∙ ap (take nodes) (drop-set-add (g * nodes) xs k y)
    ∙ take-set-lt nodes (drop (g * nodes) xs) k y less

-- the units that lead
leading_step : (b : Bool) (n m : ℕ) → n ≡ m → cond b (n + 1) 0 ≡ cond b (1 + m) 0
leading_step true n m e = omega (arith, e)
leading_step false n m e = refl

pub leading_is_prefix : (xs : List UnitState) → leading xs ≡ prefix_len is_passed xs
leading_is_prefix [] = refl
leading_is_prefix (x ∷ xs) =
    leading_step (is_passed x) (leading xs) (prefix_len is_passed xs) (leading_is_prefix xs)

-- more of them lead where one more is passed
more_step : (b c : Bool) (n m : ℕ) → (c ≡ true → b ≡ true) → n ≤ m
    → cond c (n + 1) 0 ≤ cond b (m + 1) 0
more_step b false n m f h = omega arith
more_step true true n m f h = omega (arith, h)
more_step false true n m f h = absurd (let e : false ≡ true = f refl in cc)

pub leading_more : (xs : List UnitState) (i : ℕ) (old d : UnitState) → i < length xs
    → (is_passed old ≡ true → is_passed (get_or xs i d) ≡ true) → leading (set xs i old) ≤ leading xs
leading_more [] i old d h f = omega arith
leading_more (x ∷ xs) zero old d h f =
    more_step (is_passed x) (is_passed old) (leading xs) (leading xs) f (omega arith)
leading_more (x ∷ xs) (suc i) old d h f =
    more_step (is_passed x) (is_passed x) (leading (set xs i old)) (leading xs) (λ e. e)
    (leading_more xs i old d (omega (arith, h)) f)

-- a loop that goes on while the next is passed
pub leading_goes : (xs : List UnitState) (i : ℕ) (d : UnitState) → i ≤ leading xs → i < length xs
    → is_passed (get_or xs i d) ≡ true → i + 1 ≤ leading xs
leading_goes xs i d h less e = elim (cases_lt i (leading xs)) [
  | inl below ↦ omega (arith, below)
  | inr above ↦
      let is = leading_is_prefix xs in
      let same : prefix_len is_passed xs ≡ i = omega (arith, is, h, above) in
      let stop = prefix_len_stops is_passed xs d (omega (arith, same, less)) in
      absurd (let k : true ≡ false = sym e ∙ ap (λ n. is_passed (get_or xs n d)) (sym same) ∙ stop in
      cc)
]

pub leading_stops : (xs : List UnitState) (i : ℕ) (d : UnitState) → i ≤ leading xs
    → is_passed (get_or xs i d) ≡ false → i ≡ leading xs
leading_stops xs i d h e = elim (cases_lt i (leading xs)) [
  | inl below ↦
      let is = leading_is_prefix xs in
      let pass = prefix_len_passes is_passed xs i d (omega (arith, is, below)) in
      absurd (let k : true ≡ false = sym pass ∙ e in cc)
  | inr above ↦ omega (arith, h, above)
]

pub leading_ends : (xs : List UnitState) (i : ℕ) → i ≤ leading xs → length xs ≤ i
    → i ≡ leading xs
leading_ends xs i h e =
    omega (arith, h, e, leading_is_prefix xs, prefix_len-le-length is_passed xs)

pub leading_within : (xs : List UnitState) → leading xs ≤ length xs
leading_within xs = omega (arith, leading_is_prefix xs, prefix_len-le-length is_passed xs)
