-- A list into which nodes are put one by one is a permutation, sorted and stable.
use Rattle.std.proofs.Common.{◌≡◌, ℕ, ◌+◌, zero, suc, Bool, true, false, cond, List, [], ◌∷◌, get_or, Option, Less, Equal, Greater, refl, sym, ◌∙◌, ap, subst, arith}
use Rattle.std.specs.Cmp.{IsStrictWeakOrder}
use Rattle.std.specs.List.{filter}
use Rattle.std.specs.List.Sorted.{IsPermutation, IsSortedBy, IsStableBy, ties}
use Rattle.std.specs.Ordering.{is_lt, is_gt, ordering_reverse}
use Rattle.std.specs.declared.cmp.Ordering.{Ordering}
use Rattle.std.proofs.lemmas.Bool.{not-true, and_parts, both_ways}
use Rattle.std.proofs.lemmas.List.Sorted.{ranks_by, IsPermutation-refl, IsPermutation-cons, IsPermutation-trans, IsPermutation-middle}
use Rattle.rb_node.specs.declared.node.Node.{Node}
use Rattle.rb_orch.specs.Laws.{RankedIsSorted}
use Rattle.rb_orch.specs.Ranking.{rank_cmp, ranked_in, ranked}
use Rattle.rb_orch.proofs.Orders.{rank_total}
use Rattle.rb_orch.proofs.RankLaws.{sorted_rest}

-- a node stands before another
abbrev before : Option (List ℕ) → Bool → Node → Node → Bool
before by down a b = is_lt (rank_cmp by down a b)

is_weak : (by : Option (List ℕ)) (down : Bool) → IsStrictWeakOrder (before by down)
is_weak by down = ranks_by (rank_total by down) (λ x. x)

turned : (o : Ordering) → is_gt (ordering_reverse o) ≡ is_lt o
turned Less = refl
turned Equal = refl
turned Greater = refl

-- to stand behind is that the other stands before
behind : (by : Option (List ℕ)) (down : Bool) (a b : Node)
    → is_gt (rank_cmp by down a b) ≡ before by down b a
behind by down a b =
    ap is_gt ((rank_total by down).antisymm a b) ∙ turned (rank_cmp by down b a)

moved : (b : Bool) (node n : Node) (ns rest : List Node) → IsPermutation (node ∷ ns) rest
    → IsPermutation (node ∷ n ∷ ns) (cond b (n ∷ rest) (node ∷ n ∷ ns))
moved true node n ns rest h =
    IsPermutation-trans _ _ _ (IsPermutation-middle (node ∷ []) n ns)
    (IsPermutation-cons n (node ∷ ns) rest h)
moved false node n ns rest h = IsPermutation-refl (node ∷ n ∷ ns)

moved_in : (by : Option (List ℕ)) (down : Bool) (node : Node) (ns : List Node)
    → IsPermutation (node ∷ ns) (ranked_in by down node ns)
moved_in by down node [] = IsPermutation-refl (node ∷ [])
moved_in by down node (n ∷ ns) =
    moved (is_gt (rank_cmp by down node n)) node n ns (ranked_in by down node ns)
    (moved_in by down node ns)

pub permuted : (by : Option (List ℕ)) (down : Bool) (ns : List Node)
    → IsPermutation ns (ranked by down ns)
permuted by down [] = IsPermutation-refl []
permuted by down (n ∷ ns) =
    IsPermutation-trans _ _ _ (IsPermutation-cons n ns (ranked by down ns) (permuted by down ns))
    (moved_in by down n (ranked by down ns))

-- what holds of the first item, where there is one
abbrev OfFirst : {X : Type 0} → (X → Type 0) → List X → Type 0
OfFirst P [] = Unit {0}
OfFirst P (x ∷ xs) = P x

sorted_more : {X : Type 0} (lt : X → X → Bool) (x : X) (xs : List X) → IsSortedBy lt xs
    → OfFirst (λ y. lt y x ≡ false) xs → IsSortedBy lt (x ∷ xs)
sorted_more lt x [] up first k d low high = absurd (let never : ⊥ = omega (arith, high) in never)
sorted_more lt x (y ∷ ys) up first zero d low high = first
sorted_more lt x (y ∷ ys) up first (suc k) d low high =
    let e : suc (k + 1) ≡ suc k + 1 = omega arith in
    subst (λ n. lt (get_or (x ∷ y ∷ ys) n d) (get_or (y ∷ ys) k d) ≡ false) e
    (up k d (omega arith) (omega (arith, high)))

first_rest : {X : Type 0} (lt : X → X → Bool) (x : X) (xs : List X) → IsSortedBy lt (x ∷ xs)
    → OfFirst (λ y. lt y x ≡ false) xs
first_rest lt x [] up = tt
first_rest lt x (y ∷ ys) up = up 0 x (omega arith) (omega arith)

first_of : {X : Type 0} (P : X → Type 0) (b : Bool) (node n : X) (one other : List X) → P node → P n
    → OfFirst P (cond b (n ∷ one) (node ∷ other))
first_of P true node n one other h k = k
first_of P false node n one other h k = h

first_in : (P : Node → Type 0) (by : Option (List ℕ)) (down : Bool) (node : Node) (ns : List Node)
    → P node → OfFirst P ns → OfFirst P (ranked_in by down node ns)
first_in P by down node [] h k = h
first_in P by down node (n ∷ ns) h k =
    first_of P (is_gt (rank_cmp by down node n)) node n (ranked_in by down node ns) (n ∷ ns) h k

placed : {X : Type 0} (lt : X → X → Bool) (b : Bool) (node n : X) (rest ns : List X) → b ≡ lt n node
    → (b ≡ true → IsSortedBy lt (n ∷ rest)) → IsSortedBy lt (n ∷ ns)
    → IsSortedBy lt (cond b (n ∷ rest) (node ∷ n ∷ ns))
placed lt true node n rest ns e later up = later refl
placed lt false node n rest ns e later up = sorted_more lt node (n ∷ ns) up (sym e)

sorted_in : (by : Option (List ℕ)) (down : Bool) (node : Node) (ns : List Node)
    → IsSortedBy (before by down) ns → IsSortedBy (before by down) (ranked_in by down node ns)
sorted_in by down node [] up = sorted_more (before by down) node [] up tt
sorted_in by down node (n ∷ ns) up =
    let lt = before by down in
    placed lt (is_gt (rank_cmp by down node n)) node n (ranked_in by down node ns) ns
    (behind by down node n)
    (λ b. sorted_more lt n (ranked_in by down node ns)
    (sorted_in by down node ns (sorted_rest lt n ns up))
    (first_in (λ y. lt y n ≡ false) by down node ns
    ((is_weak by down).one_way n node (sym (behind by down node n) ∙ b))
    (first_rest lt n ns up)))
    up

pub sorted : (by : Option (List ℕ)) (down : Bool) (ns : List Node)
    → IsSortedBy (before by down) (ranked by down ns)
sorted by down [] = λ k d low high. absurd (let never : ⊥ = omega (arith, high) in never)
sorted by down (n ∷ ns) = sorted_in by down n (ranked by down ns) (sorted by down ns)

-- two nodes that both tie with a third tie with each other
not_tied : {X : Type 0} (lt : X → X → Bool) → IsStrictWeakOrder lt → (x n node : X)
    → lt n node ≡ true → ties lt x n ≡ true → ties lt x node ≡ true → ⊥
not_tied lt o x n node h one other =
    let a = and_parts _ _ one in
    let b = and_parts _ _ other in
    both_ways (lt n node)
    (o.chain n x node (not-true (lt n x) a.1) (not-true (lt x node) b.0)) h

swapped : {X : Type 0} (a b : Bool) (n node : X) (r : List X) → (a ≡ true → b ≡ true → ⊥)
    → cond a (n ∷ cond b (node ∷ r) r) (cond b (node ∷ r) r)
    ≡ cond b (node ∷ cond a (n ∷ r) r) (cond a (n ∷ r) r)
swapped true true n node r h = absurd (h refl refl)
swapped true false n node r h = refl
swapped false b n node r h = refl

filtered : {X : Type 0} (p : X → Bool) (b : Bool) (node n : X) (rest ns : List X)
    → filter p rest ≡ filter p (node ∷ ns) → (b ≡ true → p n ≡ true → p node ≡ true → ⊥)
    → filter p (cond b (n ∷ rest) (node ∷ n ∷ ns)) ≡ filter p (node ∷ n ∷ ns)
filtered p true node n rest ns e apart =
    ap (λ l. cond (p n) (n ∷ l) l) e ∙ swapped (p n) (p node) n node (filter p ns) (apart refl)
filtered p false node n rest ns e apart = refl

stable_in : (by : Option (List ℕ)) (down : Bool) (node x : Node) (ns : List Node)
    → filter (ties (before by down) x) (ranked_in by down node ns)
    ≡ filter (ties (before by down) x) (node ∷ ns)
stable_in by down node x [] = refl
stable_in by down node x (n ∷ ns) =
    filtered (ties (before by down) x) (is_gt (rank_cmp by down node n)) node n
    (ranked_in by down node ns) ns (stable_in by down node x ns)
    (λ b. not_tied (before by down) (is_weak by down) x n node (sym (behind by down node n) ∙ b))

same_filtered : {X : Type 0} (p : X → Bool) (n : X) (xs ys : List X) → filter p xs ≡ filter p ys
    → filter p (n ∷ xs) ≡ filter p (n ∷ ys)
same_filtered p n xs ys e = ap (λ l. cond (p n) (n ∷ l) l) e

pub stable : (by : Option (List ℕ)) (down : Bool) (ns : List Node)
    → IsStableBy (before by down) ns (ranked by down ns)
stable by down [] x = refl
stable by down (n ∷ ns) x =
    stable_in by down n x (ranked by down ns)
    ∙ same_filtered (ties (before by down) x) n (ranked by down ns) ns (stable by down ns x)

pub ranked_is_sorted : RankedIsSorted
ranked_is_sorted by down nodes = (permuted by down nodes, sorted by down nodes, stable by down nodes)
