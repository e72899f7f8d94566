-- A list that is sorted and stable is the only one.
use Rattle.std.proofs.Common.{◌≡◌, ℕ, ◌+◌, ◌<◌, suc, Bool, true, false, not, ◌&&◌, cond, List, [], ◌∷◌, length, get_or, ◌⊎◌, inl, inr, refl, sym, ◌∙◌, ap, subst, arith}
use Rattle.std.specs.List.{filter}
use Rattle.std.specs.List.Sorted.{IsSortedBy, ties}
use Rattle.std.specs.Cmp.{IsStrictWeakOrder}
use Rattle.std.proofs.lemmas.List.Sorted.{ranks_by, sorted_far}
use Rattle.rb_orch.specs.Laws.{RankingIsOne}
use Rattle.rb_orch.proofs.Orders.{rank_total}

head_or : {X : Type 0} → X → List X → X
head_or d [] = d
head_or d (x ∷ xs) = x

tail_of : {X : Type 0} → List X → List X
tail_of [] = []
tail_of (x ∷ xs) = xs

heads : {X : Type 0} (x y : X) (xs ys : List X) → x ∷ xs ≡ y ∷ ys → x ≡ y
unfolding head_or
heads x y xs ys e = ap (head_or x) e

tails : {X : Type 0} (x y : X) (xs ys : List X) → x ∷ xs ≡ y ∷ ys → xs ≡ ys
unfolding tail_of
tails x y xs ys e = ap tail_of e

-- the first of those that pass is the first item, or the first of the others that pass
first_passing : {X : Type 0} (b : Bool) (x y : X) (passing rest : List X)
    → cond b (x ∷ passing) passing ≡ y ∷ rest → (x ≡ y) ⊎ (passing ≡ y ∷ rest)
first_passing true x y passing rest e = inl (heads x y passing rest e)
first_passing false x y passing rest e = inr e

-- what holds at each place holds of the first that passes
of_first : {X : Type 0} (P : X → Type 0) (p : X → Bool) (xs : List X) (y : X) (rest : List X)
    → filter p xs ≡ y ∷ rest → ((j : ℕ) (d : X) → j < length xs → P (get_or xs j d)) → P y
of_first P p [] y rest e h = let never : ⊥ = cc in absurd never
of_first P p (x ∷ xs) y rest e h =
    elim (first_passing (p x) x y (filter p xs) rest e) [
      | inl same ↦ subst P same (h 0 x (omega arith))
      | inr later ↦ of_first P p xs y rest later (λ j d l. h (suc j) d (omega (arith, l)))
    ]

not_both : (b : Bool) → (b ≡ true → b ≡ false) → b ≡ false
not_both true h = h refl
not_both false h = refl

both_false : (a b : Bool) → a ≡ false → b ≡ false → (not a && not b) ≡ true
both_false a b e h = rw (e, h) refl

others : {X : Type 0} (b : Bool) (y : X) (xs zs : List X) → cond b (y ∷ xs) xs ≡ cond b (y ∷ zs) zs
    → xs ≡ zs
others true y xs zs e = tails y y xs zs e
others false y xs zs e = e

pub sorted_rest : {X : Type 0} (lt : X → X → Bool) (x : X) (xs : List X) → IsSortedBy lt (x ∷ xs)
    → IsSortedBy lt xs
sorted_rest lt x xs up k d low high =
    let e : suc k + 1 ≡ suc (k + 1) = omega arith in
    subst (λ n. lt (get_or (x ∷ xs) n d) (get_or xs k d) ≡ false) e
    (up (suc k) d (omega arith) (omega (arith, high)))

-- an item that ties with x is the first that does
next_tied : {X : Type 0} (lt : X → X → Bool) (x y : X) (ys : List X) → ties lt x y ≡ true
    → filter (ties lt x) (y ∷ ys) ≡ y ∷ filter (ties lt x) ys
next_tied lt x y ys e = ap (λ b. cond b (y ∷ filter (ties lt x) ys) (filter (ties lt x) ys)) e

itself : {X : Type 0} (lt : X → X → Bool) (o : IsStrictWeakOrder lt) (x : X) (xs : List X)
    → filter (ties lt x) (x ∷ xs) ≡ x ∷ filter (ties lt x) xs
itself lt o x xs = let once : lt x x ≡ false = not_both (lt x x) (o.one_way x x) in
    next_tied lt x x xs (both_false _ _ once once)

one_list : {X : Type 0} (lt : X → X → Bool) (o : IsStrictWeakOrder lt) (xs ys : List X)
    → IsSortedBy lt xs → IsSortedBy lt ys
    → ((x : X) → filter (ties lt x) xs ≡ filter (ties lt x) ys) → xs ≡ ys
one_list lt o [] [] up up' same = refl
one_list lt o [] (y ∷ ys) up up' same =
    let e : [] ≡ y ∷ filter (ties lt y) ys = same y ∙ itself lt o y ys in
    let never : ⊥ = cc in absurd never
one_list lt o (x ∷ xs) [] up up' same =
    let e : x ∷ filter (ties lt x) xs ≡ [] = sym (itself lt o x xs) ∙ same x in
    let never : ⊥ = cc in absurd never
one_list {X} lt o (x ∷ xs) (y ∷ ys) up up' same =
    let x_late : lt x y ≡ false = of_first (λ w. lt w y ≡ false) (ties lt x) (y ∷ ys) x _
    (sym (same x) ∙ itself lt o x xs)
    (λ j d l. sorted_far lt o (y ∷ ys) up' 0 j d (omega arith) l) in
    let y_late : lt y x ≡ false = of_first (λ w. lt w x ≡ false) (ties lt y) (x ∷ xs) y _
    (same y ∙ itself lt o y ys) (λ j d l. sorted_far lt o (x ∷ xs) up 0 j d (omega arith) l) in
    let head : x ≡ y = heads x y _ _
    (sym (itself lt o x xs) ∙ same x ∙ next_tied lt x y ys (both_false _ _ x_late y_late)) in
    let step : (w : X) → filter (ties lt w) xs ≡ filter (ties lt w) ys =
    λ w. others (ties lt w x) x _ _
    (same w ∙ sym
    (ap (λ v. cond (ties lt w v) (v ∷ filter (ties lt w) ys) (filter (ties lt w) ys)) head)) in
    ap (λ l. x ∷ l) (one_list lt o xs ys (sorted_rest lt x xs up) (sorted_rest lt y ys up') step)
    ∙ ap (λ w. w ∷ ys) head

pub ranking_is_one : RankingIsOne
ranking_is_one by down nodes one other up stable up' stable' =
    one_list _ (ranks_by (rank_total by down) (λ x. x)) one other up up'
    (λ x. stable x ∙ sym (stable' x))
