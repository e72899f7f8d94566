-- Tests, filters and finds over lists.
use Rattle.std.specs.List.{list_any}
use Rattle.std.proofs.Common.{◌≡◌, ◌∙◌, ◌<◌, length, slice_set, ℕ, zero, suc, List, [], ◌∷◌, ◌++◌, filter, Bool, true, false, cond, ◌||◌, Some, slice_get, unwrap_or, ap, sym, refl, arith, ◌+◌}
use Rattle.std.proofs.lemmas.Bool.{or_right}
use Rattle.rb_causes.proofs.Lists.{some_is}

-- ---- tests

pub both_ways : (a b : Bool) → (a ≡ true → b ≡ true) → (b ≡ true → a ≡ true) → a ≡ b
both_ways true b f g = sym (f refl)
both_ways false true f g = g refl
both_ways false false f g = refl

-- ---- lists

kept_if : {A : Type 0} (p : A → Bool) (a b : Bool) (x : A) (xs ys : List A) → p x ≡ a
    → (a ≡ true → b ≡ true) → (list_any p xs ≡ true → list_any p ys ≡ true)
    → (a || list_any p xs) ≡ true → list_any p (cond b (x ∷ ys) ys) ≡ true
kept_if p true true x xs ys is f g h = ap (λ t. t || list_any p ys) is
kept_if p true false x xs ys is f g h = absurd (let no = f refl in grind (arith, no))
kept_if p false true x xs ys is f g h = ap (λ t. t || list_any p ys) is ∙ g h
kept_if p false false x xs ys is f g h = g h

-- what passes a filter is still there
pub any_filter : {A : Type 0} (p q : A → Bool) (passes : (x : A) → p x ≡ true → q x ≡ true)
    (xs : List A) → list_any p xs ≡ true → list_any p (filter q xs) ≡ true
any_filter p q passes [] h = h
any_filter p q passes (x ∷ xs) h =
    kept_if p (p x) (q x) x xs (filter q xs) refl (passes x) (any_filter p q passes xs) h

here_or : {A : Type 0} (p : A → Bool) (b : Bool) (x : A) (xs : List A) → p x ≡ b
    → (list_any p xs ≡ true → (k : ℕ) × (y : A) × (slice_get xs k ≡ Some y) × (p y ≡ true))
    → (b || list_any p xs) ≡ true
    → (k : ℕ) × (y : A) × (slice_get (x ∷ xs) k ≡ Some y) × (p y ≡ true)
here_or p true x xs is f h = (0, x, refl, is)
here_or p false x xs is f h = let g = f h in (suc g.0, g.1, g.2, g.3)

-- one that passes, and where it stands
pub any_gives : {A : Type 0} (p : A → Bool) (xs : List A) → list_any p xs ≡ true
    → (k : ℕ) × (y : A) × (slice_get xs k ≡ Some y) × (p y ≡ true)
any_gives p [] h = absurd (grind (arith, h))
any_gives p (x ∷ xs) h = here_or p (p x) x xs refl (any_gives p xs) h

pub any_from : {A : Type 0} (p : A → Bool) (xs : List A) (k : ℕ) (y : A)
    → slice_get xs k ≡ Some y → p y ≡ true → list_any p xs ≡ true
any_from p [] k y get h = absurd (grind (arith, get))
any_from p (x ∷ xs) zero y get h =
    ap (λ b. b || list_any p xs) (ap p (ap (λ o. unwrap_or o y) get) ∙ h)
any_from p (x ∷ xs) (suc k) y get h = or_right (p x) (list_any p xs) (any_from p xs k y get h)

-- and what stands before and behind it
pub split_at : {A : Type 0} (xs : List A) (k : ℕ) (y : A) → slice_get xs k ≡ Some y
    → (h : List A) × (rest : List A) × (xs ≡ h ++ y ∷ rest)
split_at [] k y get = absurd (grind (arith, get))
split_at (x ∷ xs) zero y get = ([], xs, ap (λ z. z ∷ xs) (some_is x y get))
split_at (x ∷ xs) (suc k) y get =
    let g = split_at xs k y get in (x ∷ g.0, g.1, ap (λ zs. x ∷ zs) g.2)

-- what is put at a place stands there
pub set_there : {A : Type 0} (xs : List A) (k : ℕ) (x : A) → k < length xs
    → slice_get (slice_set xs k x) k ≡ Some x
set_there [] k x low = absurd (omega (arith, low))
set_there (y ∷ ys) zero x low = refl
set_there (y ∷ ys) (suc k) x low = set_there ys k x (omega (arith, low))

-- what was put there twice is what was put there last
pub set_again : {A : Type 0} (xs : List A) (k : ℕ) (x y : A)
    → slice_set (slice_set xs k x) k y ≡ slice_set xs k y
set_again [] k x y = refl
set_again (z ∷ xs) zero x y = refl
set_again (z ∷ xs) (suc k) x y = ap (λ ys. z ∷ ys) (set_again xs k x y)

-- to put what is there changes nothing
pub set_same : {A : Type 0} (xs : List A) (k : ℕ) (x : A) → slice_get xs k ≡ Some x
    → xs ≡ slice_set xs k x
set_same [] k x h = refl
set_same (z ∷ xs) zero x h = ap (λ y. y ∷ xs) (some_is z x h)
set_same (z ∷ xs) (suc k) x h = ap (λ ys. z ∷ ys) (set_same xs k x h)

pub same_place : {n place k : ℕ} → n ≡ suc place → k + 1 ≡ n → place ≡ k
same_place h j = omega (arith, h, j)
