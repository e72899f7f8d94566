-- Lists: what stands behind another, and what is found in them.
use Rattle.std.proofs.Common.{◌≡◌, ◌∙◌, ◌≤◌, ◌-◌, ◌⊎◌, ℕ, zero, suc, List, [], ◌∷◌, ◌++◌, take, drop, length, reverse, find, Bool, true, false, cond, Option, Some, None, slice_get, ap, sym, refl, arith, inl, inr, append-nil, append_assoc, length-append}
use Rattle.std.proofs.lemmas.List.{length-take-le, reverse-append}

pub less_one : (n : ℕ) → suc n - 1 ≡ n
less_one n = omega arith

pub get_stays : {A : Type 0} (xs more : List A) (n : ℕ) (y : A) → slice_get xs n ≡ Some y
    → slice_get (xs ++ more) n ≡ Some y
get_stays [] more n y h = absurd (grind (arith, h))
get_stays (x ∷ xs) more zero y h = h
get_stays (x ∷ xs) more (suc n) y h = get_stays xs more n y h

pub get_seam : {A : Type 0} (xs ys : List A) (y : A)
    → slice_get (xs ++ y ∷ ys) (length xs) ≡ Some y
get_seam [] ys y = refl
get_seam (x ∷ xs) ys y = get_seam xs ys y

pub drop_seam : {A : Type 0} (xs ys : List A) (y : A) → drop (suc (length xs)) (xs ++ y ∷ ys) ≡ ys
drop_seam [] ys y = refl
drop_seam (x ∷ xs) ys y = drop_seam xs ys y

-- a list that is the first n of it and one more has one more than n
pub one_more : {A : Type 0} (n : ℕ) (xs : List A) (y : A) → n ≤ length xs
    → xs ≡ take n xs ++ y ∷ [] → length xs ≡ suc n
one_more n xs y within h =
    let both : length xs ≡ length (take n xs ++ y ∷ []) = ap length h in
    omega (arith, both, length-append (take n xs) (y ∷ []), length-take-le n xs within)

pub no_more : {A : Type 0} (n : ℕ) (xs : List A) → n ≤ length xs → xs ≡ take n xs ++ []
    → length xs ≡ n
no_more n xs within h =
    let both : length xs ≡ length (take n xs ++ []) = ap length h in
    omega (arith, both, ap length (append-nil (take n xs)), length-take-le n xs within)

-- ---- what is found

-- a place at which the test passes, with what stands before it and behind it
pub record IsAt {A : Type 0} (p : A → Bool) (xs : List A) : Type 0 where
  pub before : List A
  pub item : A
  pub behind : List A
  pub all : xs ≡ before ++ item ∷ behind
  pub passes : p item ≡ true

found_or : {A : Type 0} (p : A → Bool) (b : Bool) (x : A) (xs : List A) → p x ≡ b
    → (find p xs ≡ None) ⊎ IsAt p xs → (cond b (Some x) (find p xs) ≡ None) ⊎ IsAt p (x ∷ xs)
found_or p true x xs is h =
    inr (record { before = []; item = x; behind = xs; all = refl; passes = is })
found_or p false x xs is (inl h) = inl h
found_or p false x xs is (inr h) = inr (record {
  before = x ∷ h.before;
  item = h.item;
  behind = h.behind;
  all = ap (λ ys. x ∷ ys) h.all;
  passes = h.passes;
})

pub none_or_at : {A : Type 0} (p : A → Bool) (xs : List A) → (find p xs ≡ None) ⊎ IsAt p xs
none_or_at p [] = inl refl
none_or_at p (x ∷ xs) = found_or p (p x) x xs refl (none_or_at p xs)

last_by : {A : Type 0} (b : Bool) (x y : A) (o o' : Option A) → (o ≡ None → o' ≡ Some y)
    → cond b (Some x) o ≡ None → cond b (Some x) o' ≡ Some y
last_by true x y o o' k h = absurd (grind (arith, h))
last_by false x y o o' k h = k h

here_by : {A : Type 0} (b : Bool) (y : A) → b ≡ true → cond b (Some y) None ≡ Some y
here_by true y h = refl
here_by false y h = absurd (grind (arith, h))

-- the last is found where it passes and none before it does
pub find_last : {A : Type 0} (p : A → Bool) (xs : List A) (y : A) → p y ≡ true
    → find p xs ≡ None → find p (xs ++ y ∷ []) ≡ Some y
find_last p [] y is h = here_by (p y) y is
find_last p (x ∷ xs) y is h =
    last_by (p x) x y (find p xs) (find p (xs ++ y ∷ [])) (find_last p xs y is) h

-- ---- newest first

pub newest : {A : Type 0} (xs : List A) (y : A) → reverse (xs ++ y ∷ []) ≡ y ∷ reverse xs
newest xs y = reverse-append xs (y ∷ [])

-- a list with something in its midst, the last first
pub reverse_seam : {A : Type 0} (xs ys : List A) (y : A)
    → reverse (xs ++ y ∷ ys) ≡ reverse ys ++ y ∷ reverse xs
reverse_seam xs ys y =
    ap reverse (sym (append_assoc xs (y ∷ []) ys))
    ∙ reverse-append (xs ++ y ∷ []) ys
    ∙ ap (λ zs. reverse ys ++ zs) (newest xs y)
