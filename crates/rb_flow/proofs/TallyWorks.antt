-- How many units of each node are in work, with one unit set.
use Rattle.std.proofs.Common.{◌≡◌, ◌≢◌, ℕ, ◌+◌, ◌<◌, ◌≤◌, Bool, false, cond, ◌&&◌, nat_eq, List, ◌∷◌, length, get_or, set, arith, refl, ap, sym, ◌∙◌, zero, suc, zero-add, length-set, get_or-set_same}
use Rattle.std.proofs.lemmas.List.Sums.{count_by-le-length}
use Rattle.std.proofs.lemmas.Bool.{eq-eqb, ne_eqb}
use Rattle.rb_flow.specs.Tally.{is_in_work, node_work, works_from}
use Rattle.rb_flow.specs.declared.unit_state.UnitState.{UnitState}
use Rattle.rb_flow.proofs.TallyCounts.{before_now, count_set, count_back, counted_at}

-- a unit of the node
abbrev pub works_at : ℕ → UnitState → Bool
works_at node s = nat_eq s.unit.node node && is_in_work s

pub works_length : (xs : List UnitState) (a n : ℕ) → length (works_from xs a n) ≡ n
works_length xs a zero = refl
works_length xs a (suc n) = ap suc (works_length xs (a + 1) n)

pub works_read : (xs : List UnitState) (a n k d : ℕ) → k < n
    → get_or (works_from xs a n) k d ≡ node_work xs (a + k)
works_read xs a zero k d h = absurd (omega (arith, h))
works_read xs a (suc n) zero d h = ap (node_work xs) (let e : a ≡ a + 0 = omega arith in e)
works_read xs a (suc n) (suc k) d h =
    works_read xs (a + 1) n k d (omega (arith, h))
    ∙ ap (node_work xs) (let e : a + 1 + k ≡ a + suc k = omega arith in e)

-- at its own node a unit counts where it is in work
pub own_node : (s : UnitState) (node : ℕ) → s.unit.node ≡ node → works_at node s ≡ is_in_work s
own_node s node e = ap (λ b. b && is_in_work s) (eq-eqb s.unit.node node e)

other_node : (s : UnitState) (node : ℕ) → s.unit.node ≢ node → works_at node s ≡ false
other_node s node e = ap (λ b. b && is_in_work s) (ne_eqb s.unit.node node e)

-- another node's count stays
pub other_work : (xs : List UnitState) (i : ℕ) (y d : UnitState) (node : ℕ) → i < length xs
    → (get_or xs i d).unit.node ≡ y.unit.node → y.unit.node ≢ node
    → node_work (set xs i y) node ≡ node_work xs node
other_work xs i y d node h same apart =
    sym (count_set (works_at node) xs i y d (node_work xs node) (node_work xs node) refl h
    (ap (λ b. node_work xs node + cond b 1 0)
    (other_node (get_or xs i d) node (λ e. apart (sym same ∙ e))
    ∙ sym (other_node y node apart))))

-- the nodes behind that of the unit
works_behind : (xs : List UnitState) (i : ℕ) (y d : UnitState) (a n : ℕ) → i < length xs
    → (get_or xs i d).unit.node ≡ y.unit.node → y.unit.node < a
    → works_from (set xs i y) a n ≡ works_from xs a n
works_behind xs i y d a zero h same less = refl
works_behind xs i y d a (suc n) h same less =
    ap (λ w. w ∷ works_from (set xs i y) (a + 1) n)
    (other_work xs i y d a h same (λ e. omega (arith, less, e)))
    ∙ ap (λ ws. node_work xs a ∷ ws)
    (works_behind xs i y d (a + 1) n h same (omega (arith, less)))

-- only the unit's node changes
pub works_set : (xs : List UnitState) (i : ℕ) (y d : UnitState) (a n k w : ℕ) → i < length xs
    → (get_or xs i d).unit.node ≡ y.unit.node → y.unit.node ≡ a + k → k < n
    → w ≡ node_work (set xs i y) y.unit.node
    → works_from (set xs i y) a n ≡ set (works_from xs a n) k w
works_set xs i y d a zero k w h same e less is = absurd (omega (arith, less))
works_set xs i y d a (suc n) zero w h same e less is =
    ap (λ v. v ∷ works_from (set xs i y) (a + 1) n)
    (ap (node_work (set xs i y)) (let k : a ≡ y.unit.node = omega (arith, e) in k) ∙ sym is)
    ∙ ap (λ ws. w ∷ ws) (works_behind xs i y d (a + 1) n h same (omega (arith, e)))
works_set xs i y d a (suc n) (suc k) w h same e less is =
    ap (λ v. v ∷ works_from (set xs i y) (a + 1) n)
    (other_work xs i y d a h same (λ here. omega (arith, here, e)))
    ∙ ap (λ ws. node_work xs a ∷ ws)
    (works_set xs i y d (a + 1) n k w h same (omega (arith, e)) (omega (arith, less)) is)

-- the works by those with the old unit at its place
pub work_before : (xs : List UnitState) (i : ℕ) (old : UnitState) (works : List ℕ) (d : ℕ)
    → old.unit.node < length works → works ≡ works_from (set xs i old) 0 (length works)
    → get_or works old.unit.node d ≡ node_work (set xs i old) old.unit.node
work_before xs i old works d less e =
    ap (λ ws. get_or ws old.unit.node d) e
    ∙ works_read (set xs i old) 0 (length works) old.unit.node d less
    ∙ ap (node_work (set xs i old)) (zero-add old.unit.node)

pub work_counted : (xs : List UnitState) (i : ℕ) (old : UnitState) (before : ℕ) → i < length xs
    → before ≡ node_work (set xs i old) old.unit.node → cond (is_in_work old) 1 0 ≤ before
work_counted xs i old before h e =
    let in_all = counted_at (works_at old.unit.node) (set xs i old) i old
    (omega (arith, h, length-set xs i old)) in
    let same : works_at old.unit.node (get_or (set xs i old) i old) ≡ is_in_work old =
    ap (works_at old.unit.node) (get_or-set_same xs i old old h)
    ∙ own_node old old.unit.node refl in
    omega (arith, in_all, e, ap {B = ℕ} (λ b. cond b 1 0) same)

pub work_bounded : (xs : List UnitState) (i : ℕ) (old : UnitState) (before : ℕ)
    → before ≡ node_work (set xs i old) old.unit.node → before ≤ length xs
work_bounded xs i old before e =
    omega (
      arith,
      e,
      count_by-le-length (works_at old.unit.node) (set xs i old),
      length-set xs i old,
    )

pub works_now : (xs : List UnitState) (i : ℕ) (old : UnitState) (works : List ℕ) (before now : ℕ)
    → i < length xs → (get_or xs i old).unit ≡ old.unit → old.unit.node < length works
    → works ≡ works_from (set xs i old) 0 (length works)
    → before ≡ node_work (set xs i old) old.unit.node
    → now + cond (is_in_work old) 1 0 ≡ before + cond (is_in_work (get_or xs i old)) 1 0
    → set works old.unit.node now ≡ works_from xs 0 (length works)
works_now xs i old works before now h same less e was n =
    let node = old.unit.node in
    let new = get_or xs i old in
    let here : new.unit.node ≡ node = ap (λ u. u.node) same in
    let count : now ≡ node_work xs node =
    count_back (works_at node) xs i old old before now was h
    (ap {B = ℕ} (λ b. now + cond b 1 0) (own_node old node refl) ∙ n
    ∙ ap {B = ℕ} (λ b. before + cond b 1 0) (sym (own_node new node here))) in
    ap (λ ws. set ws node now) e
    ∙ sym (works_set (set xs i old) i new old 0 (length works) node now
    (omega (arith, h, length-set xs i old))
    (ap (λ s. s.unit.node) (get_or-set_same xs i old old h) ∙ sym here)
    (here ∙ sym (zero-add node)) less
    (count ∙ ap (node_work xs) (sym here)
    ∙ ap (λ ys. node_work ys new.unit.node) (sym (before_now xs i old))))
    ∙ ap (λ ys. works_from ys 0 (length works)) (before_now xs i old)
