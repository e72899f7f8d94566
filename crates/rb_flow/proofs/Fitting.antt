-- How many nodes are in work with one more, by what is counted of each node.
use Rattle.std.proofs.Common.{◌≡◌, ℕ, ◌+◌, ◌<◌, Bool, ◌||◌, ◌&&◌, inl, inr, zero, suc, cond, nat_eq, nat_le, nat_lt, List, [], ◌∷◌, length, get_or, sym, ap, ◌∙◌, add_assoc, zero-add, arith, refl}
use Rattle.std.specs.List.{list_any}
use Rattle.std.proofs.lemmas.Bool.{eq-eqb, ne_eqb, lt-ltb, le-ltb, le-leb, lt-leb, cases_lt}
use Rattle.std.proofs.lemmas.List.{get_or_default}
use Rattle.rb_marks.specs.Units.{Outline}
use Rattle.rb_marks.proofs.Counts.{count_cons}
use Rattle.rb_flow.specs.declared.unit_state.UnitState.{UnitState}
use Rattle.rb_flow.specs.declared.tally.Tally.{Tally}
use Rattle.rb_flow.specs.Tally.{IsTally, is_in_work, node_work, works_from, busy_count}
use Rattle.rb_flow.specs.Choice.{busy_with, fits}
use Rattle.rb_flow.proofs.Parts.{some_counted}

length-works_from : (all : List UnitState) (node n : ℕ) → length (works_from all node n) ≡ n
length-works_from all node zero = refl
length-works_from all node (suc n) = ap suc (length-works_from all (node + 1) n)

pub length-works : (t : Tally) → IsTally t → length t.works.items ≡ t.nodes
length-works t is = ap length is.works ∙ length-works_from t.states.items 0 t.nodes

-- whether the node has a unit in work
abbrev works : List UnitState → ℕ → Bool
works all n = list_any (λ s. nat_eq s.unit.node n && is_in_work s) all

works_counted : (all : List UnitState) (n : ℕ) → works all n ≡ nat_lt 0 (node_work all n)
works_counted all n = sym (some_counted (λ s. nat_eq s.unit.node n && is_in_work s) all)

counts_more : (all : List UnitState) (node n : ℕ)
    → cond (works all node) 1 0 + busy_count (works_from all (node + 1) n)
    ≡ busy_count (works_from all node (suc n))
counts_more all node n =
    ap {B = ℕ} (λ b. cond b 1 0 + busy_count (works_from all (node + 1) n)) (works_counted all node)
    ∙ sym (count_cons (λ w. nat_lt 0 w) (node_work all node) (works_from all (node + 1) n))

-- the nodes behind this one
busy_behind : (all : List UnitState) (this : ℕ) (tiers : List ℕ) (n : ℕ) → this < n
    → busy_with all this n tiers ≡ busy_count (works_from all n (length tiers))
busy_behind all this [] n h = refl
busy_behind all this (t ∷ ts) n h =
    ap {B = ℕ} (λ b. cond (b || works all n) 1 0 + busy_with all this (n + 1) ts)
    (ne_eqb n this (λ same. omega (arith, same, h)))
    ∙ ap (λ k. cond (works all n) 1 0 + k) (busy_behind all this ts (n + 1) (omega (arith, h)))
    ∙ counts_more all n (length ts)

here_once : (w n : ℕ) → 1 + n ≡ (cond (nat_lt 0 w) 1 0 + n) + cond (nat_eq w 0) 1 0
here_once zero n = omega arith
here_once (suc w) n = rw (lt-ltb 0 (suc w) (omega arith), ne_eqb (suc w) 0 (λ e. omega (arith, e)))
    (omega arith)

busy_is : (all : List UnitState) (this : ℕ) (tiers : List ℕ) (n k : ℕ) → this ≡ n + k
    → k < length tiers → busy_with all this n tiers
    ≡ busy_count (works_from all n (length tiers))
    + cond (nat_eq (get_or (works_from all n (length tiers)) k 0) 0) 1 0
busy_is all this [] n k e l = absurd (omega (arith, l))
busy_is all this (t ∷ ts) n zero e l =
    let rest = works_from all (n + 1) (length ts) in
    ap {B = ℕ} (λ b. cond (b || works all n) 1 0 + busy_with all this (n + 1) ts)
    (eq-eqb n this (omega (arith, e)))
    ∙ ap (λ m. 1 + m) (busy_behind all this ts (n + 1) (omega (arith, e)))
    ∙ here_once (node_work all n) (busy_count rest)
    ∙ ap (λ m. m + cond (nat_eq (node_work all n) 0) 1 0)
    (sym (count_cons (λ w. nat_lt 0 w) (node_work all n) rest))
busy_is all this (t ∷ ts) n (suc k) e l =
    let rest = works_from all (n + 1) (length ts) in
    ap {B = ℕ} (λ b. cond (b || works all n) 1 0 + busy_with all this (n + 1) ts)
    (ne_eqb n this (λ same. omega (arith, same, e)))
    ∙ ap (λ m. cond (works all n) 1 0 + m)
    (busy_is all this ts (n + 1) k (omega (arith, e)) (omega (arith, l)))
    ∙ sym (add_assoc (cond (works all n) 1 0) (busy_count rest)
    (cond (nat_eq (get_or rest k 0) 0) 1 0))
    ∙ ap (λ m. m + cond (nat_eq (get_or rest k 0) 0) 1 0) (counts_more all n (length ts))

fits_is : (p : Outline) (t : Tally) → IsTally t → t.nodes ≡ length p.tiers → (node w : ℕ)
    → node < t.nodes → w ≡ get_or t.works.items node w → fits p t.states.items node
    ≡ nat_le (t.busy + cond (nat_eq w 0) 1 0) p.bound
fits_is p t is nodes node w l e =
    let all = t.states.items in
    let works_are : t.works.items ≡ works_from all 0 (length p.tiers) =
    is.works ∙ ap (works_from all 0) nodes in
    let read : w ≡ get_or t.works.items node 0 = e
    ∙ get_or_default t.works.items node w 0 (let s = length-works t is in omega (arith, l, s)) in
    ap (λ n. nat_le n p.bound)
    (busy_is all node p.tiers 0 node (sym (zero-add node)) (omega (arith, l, nodes))
    ∙ ap (λ ws. busy_count ws + cond (nat_eq (get_or ws node 0) 0) 1 0) (sym works_are)
    ∙ ap (λ b. b + cond (nat_eq (get_or t.works.items node 0) 0) 1 0) (sym is.busy)
    ∙ ap {B = ℕ} (λ v. t.busy + cond (nat_eq v 0) 1 0) (sym read))

lt_is_le : (a b : ℕ) → nat_lt a b ≡ nat_le (a + 1) b
lt_is_le a b = elim (cases_lt a b) [
  | inl less ↦ lt-ltb a b less ∙ sym (le-leb (a + 1) b (omega (arith, less)))
  | inr more ↦ le-ltb a b more ∙ sym (lt-leb (a + 1) b (omega (arith, more)))
]

-- the node has no unit in work
pub fits_anew : (p : Outline) (t : Tally) → IsTally t → t.nodes ≡ length p.tiers → (node w : ℕ)
    → node < t.nodes → w ≡ get_or t.works.items node w → w ≡ 0
    → nat_lt t.busy p.bound ≡ fits p t.states.items node
fits_anew p t is nodes node w l e none =
    lt_is_le t.busy p.bound
    ∙ ap {B = Bool} (λ b. nat_le (t.busy + cond b 1 0) p.bound) (sym (eq-eqb w 0 none))
    ∙ sym (fits_is p t is nodes node w l e)

-- the node has one
pub fits_again : (p : Outline) (t : Tally) → IsTally t → t.nodes ≡ length p.tiers → (node w : ℕ)
    → node < t.nodes → w ≡ get_or t.works.items node w → (w ≡ 0 → ⊥)
    → nat_le t.busy p.bound ≡ fits p t.states.items node
fits_again p t is nodes node w l e some =
    ap (λ n. nat_le n p.bound) (let z : t.busy ≡ t.busy + 0 = omega arith in z)
    ∙ ap {B = Bool} (λ b. nat_le (t.busy + cond b 1 0) p.bound) (sym (ne_eqb w 0 some))
    ∙ sym (fits_is p t is nodes node w l e)
