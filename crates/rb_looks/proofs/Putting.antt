-- A list into which items are put one by one is the one that is sorted and stable.
use Rattle.std.proofs.Common.{◌≡◌, ℕ, ◌+◌, ◌<◌, zero, suc, Bool, true, false, not, ◌&&◌, cond, List, [], ◌∷◌, length, get_or, map, Less, Equal, Greater, ◌⊎◌, inl, inr, refl, sym, ◌∙◌, ap, subst, arith}
use Rattle.std.specs.Cmp.{IsStrictWeakOrder, IsTotalOrder}
use Rattle.std.specs.List.{filter}
use Rattle.std.specs.List.Sorted.{IsSortedBy, IsStableBy, ties}
use Rattle.std.specs.Ordering.{is_lt, is_gt, ordering_reverse, match_ordering}
use Rattle.std.specs.declared.cmp.Ordering.{Ordering}
use Rattle.std.proofs.lemmas.Bool.{not-true, and_parts, both_ways}
use Rattle.std.proofs.lemmas.Cmp.{nat_list_cmp_total, on_total, then_total}
use Rattle.std.proofs.lemmas.List.Sorted.{ranks_by, sorted_far}
use Rattle.rb_log.specs.Looks.{job_view, job_views, put_view, view_cmp}
use Rattle.rb_log.specs.World.{ProjectJob}
use Rattle.rb_log.specs.declared.shown.JobView.{JobView}

-- ---- items that are put before the first that is no earlier

abbrev put_in : {X : Type 0} → (X → X → Ordering) → X → List X → List X
put_in cmp x [] = x ∷ []
put_in cmp x (y ∷ ys) = cond (is_gt (cmp x y)) (y ∷ put_in cmp x ys) (x ∷ y ∷ ys)

abbrev put_all : {X : Type 0} → (X → X → Ordering) → List X → List X
put_all cmp [] = []
put_all cmp (x ∷ xs) = put_in cmp x (put_all cmp xs)

abbrev before : {X : Type 0} → (X → X → Ordering) → X → X → Bool
before cmp a b = is_lt (cmp a b)

turned : (o : Ordering) → is_gt (ordering_reverse o) ≡ is_lt o
turned Less = refl
turned Equal = refl
turned Greater = refl

-- to stand behind is that the other stands before
behind : {X : Type 0} (cmp : X → X → Ordering) (total : IsTotalOrder cmp) (a b : X)
    → is_gt (cmp a b) ≡ before cmp b a
behind cmp total a b = ap is_gt (total.antisymm a b) ∙ turned (cmp b a)

-- ---- sorted

-- what holds of the first item, where there is one
abbrev OfFirst : {X : Type 0} → (X → Type 0) → List X → Type 0
OfFirst P [] = Unit {0}
OfFirst P (x ∷ xs) = P x

sorted_more : {X : Type 0} (lt : X → X → Bool) (x : X) (xs : List X) → IsSortedBy lt xs
    → OfFirst (λ y. lt y x ≡ false) xs → IsSortedBy lt (x ∷ xs)
sorted_more lt x [] up first k d low high = absurd (let never : ⊥ = omega (arith, high) in never)
sorted_more lt x (y ∷ ys) up first zero d low high = first
sorted_more lt x (y ∷ ys) up first (suc k) d low high =
    let e : suc (k + 1) ≡ suc k + 1 = omega arith in
    subst (λ n. lt (get_or (x ∷ y ∷ ys) n d) (get_or (y ∷ ys) k d) ≡ false) e
    (up k d (omega arith) (omega (arith, high)))

sorted_rest : {X : Type 0} (lt : X → X → Bool) (x : X) (xs : List X) → IsSortedBy lt (x ∷ xs)
    → IsSortedBy lt xs
sorted_rest lt x xs up k d low high =
    let e : suc k + 1 ≡ suc (k + 1) = omega arith in
    subst (λ n. lt (get_or (x ∷ xs) n d) (get_or xs k d) ≡ false) e
    (up (suc k) d (omega arith) (omega (arith, high)))

first_rest : {X : Type 0} (lt : X → X → Bool) (x : X) (xs : List X) → IsSortedBy lt (x ∷ xs)
    → OfFirst (λ y. lt y x ≡ false) xs
first_rest lt x [] up = tt
first_rest lt x (y ∷ ys) up = up 0 x (omega arith) (omega arith)

first_of : {X : Type 0} (P : X → Type 0) (b : Bool) (x y : X) (one other : List X) → P x → P y
    → OfFirst P (cond b (y ∷ one) (x ∷ other))
first_of P true x y one other h k = k
first_of P false x y one other h k = h

first_in : {X : Type 0} (P : X → Type 0) (cmp : X → X → Ordering) (x : X) (ys : List X)
    → P x → OfFirst P ys → OfFirst P (put_in cmp x ys)
first_in P cmp x [] h k = h
first_in P cmp x (y ∷ ys) h k = first_of P (is_gt (cmp x y)) x y (put_in cmp x ys) (y ∷ ys) h k

placed : {X : Type 0} (lt : X → X → Bool) (b : Bool) (x y : X) (rest ys : List X) → b ≡ lt y x
    → (b ≡ true → IsSortedBy lt (y ∷ rest)) → IsSortedBy lt (y ∷ ys)
    → IsSortedBy lt (cond b (y ∷ rest) (x ∷ y ∷ ys))
placed lt true x y rest ys e later up = later refl
placed lt false x y rest ys e later up = sorted_more lt x (y ∷ ys) up (sym e)

sorted_in : {X : Type 0} (cmp : X → X → Ordering) (total : IsTotalOrder cmp) (x : X) (ys : List X)
    → IsSortedBy (before cmp) ys → IsSortedBy (before cmp) (put_in cmp x ys)
sorted_in cmp total x [] up = sorted_more (before cmp) x [] up tt
sorted_in cmp total x (y ∷ ys) up =
    let lt = before cmp in
    placed lt (is_gt (cmp x y)) x y (put_in cmp x ys) ys (behind cmp total x y)
    (λ b. sorted_more lt y (put_in cmp x ys)
    (sorted_in cmp total x ys (sorted_rest lt y ys up))
    (first_in (λ z. lt z y ≡ false) cmp x ys
    ((ranks_by total (λ z. z)).one_way y x (sym (behind cmp total x y) ∙ b))
    (first_rest lt y ys up)))
    up

sorted : {X : Type 0} (cmp : X → X → Ordering) (total : IsTotalOrder cmp) (xs : List X)
    → IsSortedBy (before cmp) (put_all cmp xs)
sorted cmp total [] = λ k d low high. absurd (let never : ⊥ = omega (arith, high) in never)
sorted cmp total (x ∷ xs) = sorted_in cmp total x (put_all cmp xs) (sorted cmp total xs)

-- ---- stable

-- two items that both tie with a third tie with each other
not_tied : {X : Type 0} (lt : X → X → Bool) → IsStrictWeakOrder lt → (z y x : X)
    → lt y x ≡ true → ties lt z y ≡ true → ties lt z x ≡ true → ⊥
not_tied lt o z y x h one other =
    let a = and_parts _ _ one in
    let b = and_parts _ _ other in
    both_ways (lt y x) (o.chain y z x (not-true (lt y z) a.1) (not-true (lt z x) b.0)) h

swapped : {X : Type 0} (a b : Bool) (y x : X) (r : List X) → (a ≡ true → b ≡ true → ⊥)
    → cond a (y ∷ cond b (x ∷ r) r) (cond b (x ∷ r) r)
    ≡ cond b (x ∷ cond a (y ∷ r) r) (cond a (y ∷ r) r)
swapped true true y x r h = absurd (h refl refl)
swapped true false y x r h = refl
swapped false b y x r h = refl

filtered : {X : Type 0} (p : X → Bool) (b : Bool) (x y : X) (rest ys : List X)
    → filter p rest ≡ filter p (x ∷ ys) → (b ≡ true → p y ≡ true → p x ≡ true → ⊥)
    → filter p (cond b (y ∷ rest) (x ∷ y ∷ ys)) ≡ filter p (x ∷ y ∷ ys)
filtered p true x y rest ys e apart =
    ap (λ l. cond (p y) (y ∷ l) l) e ∙ swapped (p y) (p x) y x (filter p ys) (apart refl)
filtered p false x y rest ys e apart = refl

stable_in : {X : Type 0} (cmp : X → X → Ordering) (total : IsTotalOrder cmp) (x z : X) (ys : List X)
    → filter (ties (before cmp) z) (put_in cmp x ys) ≡ filter (ties (before cmp) z) (x ∷ ys)
stable_in cmp total x z [] = refl
stable_in cmp total x z (y ∷ ys) =
    filtered (ties (before cmp) z) (is_gt (cmp x y)) x y (put_in cmp x ys) ys
    (stable_in cmp total x z ys)
    (λ b. not_tied (before cmp) (ranks_by total (λ w. w)) z y x
    (sym (behind cmp total x y) ∙ b))

stable : {X : Type 0} (cmp : X → X → Ordering) (total : IsTotalOrder cmp) (xs : List X)
    → IsStableBy (before cmp) xs (put_all cmp xs)
stable cmp total [] z = refl
stable cmp total (x ∷ xs) z =
    stable_in cmp total x z (put_all cmp xs)
    ∙ ap (λ l. cond (ties (before cmp) z x) (x ∷ l) l) (stable cmp total xs z)

-- ---- there is one list that is sorted and stable

head_or : {X : Type 0} → X → List X → X
head_or d [] = d
head_or d (x ∷ xs) = x

tail_of : {X : Type 0} → List X → List X
tail_of [] = []
tail_of (x ∷ xs) = xs

heads : {X : Type 0} (x y : X) (xs ys : List X) → x ∷ xs ≡ y ∷ ys → x ≡ y
unfolding head_or
heads x y xs ys e = ap (head_or x) e

tails : {X : Type 0} (x y : X) (xs ys : List X) → x ∷ xs ≡ y ∷ ys → xs ≡ ys
unfolding tail_of
tails x y xs ys e = ap tail_of e

first_passing : {X : Type 0} (b : Bool) (x y : X) (passing rest : List X)
    → cond b (x ∷ passing) passing ≡ y ∷ rest → (x ≡ y) ⊎ (passing ≡ y ∷ rest)
first_passing true x y passing rest e = inl (heads x y passing rest e)
first_passing false x y passing rest e = inr e

of_first : {X : Type 0} (P : X → Type 0) (p : X → Bool) (xs : List X) (y : X) (rest : List X)
    → filter p xs ≡ y ∷ rest → ((j : ℕ) (d : X) → j < length xs → P (get_or xs j d)) → P y
of_first P p [] y rest e h = let never : ⊥ = cc in absurd never
of_first P p (x ∷ xs) y rest e h =
    elim (first_passing (p x) x y (filter p xs) rest e) [
      | inl same ↦ subst P same (h 0 x (omega arith))
      | inr later ↦ of_first P p xs y rest later (λ j d l. h (suc j) d (omega (arith, l)))
    ]

not_both : (b : Bool) → (b ≡ true → b ≡ false) → b ≡ false
not_both true h = h refl
not_both false h = refl

both_false : (a b : Bool) → a ≡ false → b ≡ false → (not a && not b) ≡ true
both_false a b e h = rw (e, h) refl

others : {X : Type 0} (b : Bool) (y : X) (xs zs : List X) → cond b (y ∷ xs) xs ≡ cond b (y ∷ zs) zs
    → xs ≡ zs
others true y xs zs e = tails y y xs zs e
others false y xs zs e = e

next_tied : {X : Type 0} (lt : X → X → Bool) (x y : X) (ys : List X) → ties lt x y ≡ true
    → filter (ties lt x) (y ∷ ys) ≡ y ∷ filter (ties lt x) ys
next_tied lt x y ys e = ap (λ b. cond b (y ∷ filter (ties lt x) ys) (filter (ties lt x) ys)) e

itself : {X : Type 0} (lt : X → X → Bool) (o : IsStrictWeakOrder lt) (x : X) (xs : List X)
    → filter (ties lt x) (x ∷ xs) ≡ x ∷ filter (ties lt x) xs
itself lt o x xs = let once : lt x x ≡ false = not_both (lt x x) (o.one_way x x) in
    next_tied lt x x xs (both_false _ _ once once)

one_list : {X : Type 0} (lt : X → X → Bool) (o : IsStrictWeakOrder lt) (xs ys : List X)
    → IsSortedBy lt xs → IsSortedBy lt ys
    → ((x : X) → filter (ties lt x) xs ≡ filter (ties lt x) ys) → xs ≡ ys
one_list lt o [] [] up up' same = refl
one_list lt o [] (y ∷ ys) up up' same =
    let e : [] ≡ y ∷ filter (ties lt y) ys = same y ∙ itself lt o y ys in
    let never : ⊥ = cc in absurd never
one_list lt o (x ∷ xs) [] up up' same =
    let e : x ∷ filter (ties lt x) xs ≡ [] = sym (itself lt o x xs) ∙ same x in
    let never : ⊥ = cc in absurd never
one_list {X} lt o (x ∷ xs) (y ∷ ys) up up' same =
    let x_late : lt x y ≡ false = of_first (λ w. lt w y ≡ false) (ties lt x) (y ∷ ys) x _
    (sym (same x) ∙ itself lt o x xs)
    (λ j d l. sorted_far lt o (y ∷ ys) up' 0 j d (omega arith) l) in
    let y_late : lt y x ≡ false = of_first (λ w. lt w x ≡ false) (ties lt y) (x ∷ xs) y _
    (same y ∙ itself lt o y ys) (λ j d l. sorted_far lt o (x ∷ xs) up 0 j d (omega arith) l) in
    let head : x ≡ y = heads x y _ _
    (sym (itself lt o x xs) ∙ same x ∙ next_tied lt x y ys (both_false _ _ x_late y_late)) in
    let step : (w : X) → filter (ties lt w) xs ≡ filter (ties lt w) ys =
    λ w. others (ties lt w x) x _ _
    (same w ∙ sym
    (ap (λ v. cond (ties lt w v) (v ∷ filter (ties lt w) ys) (filter (ties lt w) ys)) head)) in
    ap (λ l. x ∷ l) (one_list lt o xs ys (sorted_rest lt x xs up) (sorted_rest lt y ys up') step)
    ∙ ap (λ w. w ∷ ys) head

-- ---- jobs that are shown

pub view_total : IsTotalOrder view_cmp
view_total = then_total (on_total (λ (v : JobView). v.group) nat_list_cmp_total)
    (on_total (λ (v : JobView). v.name) nat_list_cmp_total)

by_gt : {X : Type 0} (o : Ordering) (before after : X)
    → match_ordering o before before after ≡ cond (is_gt o) after before
by_gt Less before after = refl
by_gt Equal before after = refl
by_gt Greater before after = refl

put_is : (v : JobView) (ws : List JobView) → put_view v ws ≡ put_in view_cmp v ws
put_is v [] = refl
put_is v (w ∷ ws) =
    by_gt (view_cmp v w) (v ∷ w ∷ ws) (w ∷ put_view v ws)
    ∙ ap (λ r. cond (is_gt (view_cmp v w)) (w ∷ r) (v ∷ w ∷ ws)) (put_is v ws)

views_are : (ps : List ProjectJob) → job_views ps ≡ put_all view_cmp (map job_view ps)
views_are [] = refl
views_are (p ∷ ps) =
    put_is (job_view p) (job_views ps) ∙ ap (put_in view_cmp (job_view p)) (views_are ps)

-- what is sorted and stable are the jobs as they are shown
pub views_sorted : (ps : List ProjectJob) (views : List JobView)
    → IsSortedBy (before view_cmp) views → IsStableBy (before view_cmp) (map job_view ps) views
    → views ≡ job_views ps
views_sorted ps views up steady =
    one_list _ (ranks_by view_total (λ v. v)) views (put_all view_cmp (map job_view ps)) up
    (sorted view_cmp view_total (map job_view ps))
    (λ v. steady v ∙ sym (stable view_cmp view_total (map job_view ps) v))
    ∙ sym (views_are ps)
