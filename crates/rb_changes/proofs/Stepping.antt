-- One after another of a list is changed in place.
use Rattle.std.proofs.Common.{◌≡◌, ◌∙◌, ◌<◌, ◌+◌, add-one, get_or, ℕ, zero, suc, List, [], ◌∷◌, ◌++◌, map, take, drop, length, Some, slice_get, slice_set, ap, sym, refl, arith}
use Rattle.std.specs.List.{insert}
use Rattle.std.proofs.lemmas.Option.{slice_get_read}
use Rattle.rb_causes.proofs.Lists.{some_is}

-- those before a place are changed
abbrev pub up_to : {A : Type 0} → (A → A) → ℕ → List A → List A
up_to f k xs = map f (take k xs) ++ drop k xs

-- at first none
pub none_yet : {A : Type 0} (f : A → A) (xs : List A) → xs ≡ up_to f 0 xs
none_yet f xs = refl

-- the one at the place stands there
pub still_there : {A : Type 0} (f : A → A) (xs : List A) (k : ℕ)
    → slice_get (up_to f k xs) k ≡ slice_get xs k
still_there f [] zero = refl
still_there f [] (suc k) = refl
still_there f (x ∷ xs) zero = refl
still_there f (x ∷ xs) (suc k) = still_there f xs k

-- it is changed next
pub one_more : {A : Type 0} (f : A → A) (xs : List A) (k : ℕ) (x : A) → slice_get xs k ≡ Some x
    → slice_set (up_to f k xs) k (f x) ≡ up_to f (suc k) xs
one_more f [] k x get = absurd (grind (arith, get))
one_more f (y ∷ ys) zero x get = ap (λ z. f z ∷ ys) (sym (some_is y x get))
one_more f (y ∷ ys) (suc k) x get = ap (λ zs. f y ∷ zs) (one_more f ys k x get)

-- or stays as it is
pub one_kept : {A : Type 0} (f : A → A) (xs : List A) (k : ℕ) (x : A) → slice_get xs k ≡ Some x
    → f x ≡ x → up_to f k xs ≡ up_to f (suc k) xs
one_kept f [] k x get same = absurd (grind (arith, get))
one_kept f (y ∷ ys) zero x get same =
    let is : y ≡ x = some_is y x get in
    ap (λ z. z ∷ ys) (is ∙ sym same ∙ ap f (sym is))
one_kept f (y ∷ ys) (suc k) x get same = ap (λ zs. f y ∷ zs) (one_kept f ys k x get same)

-- in the end all
pub all_done : {A : Type 0} (f : A → A) (xs : List A) → up_to f (length xs) xs ≡ map f xs
all_done f [] = refl
all_done f (x ∷ xs) = ap (λ zs. f x ∷ zs) (all_done f xs)

-- where one was read, it is changed so
pub step_on : {A : Type 0} (f : A → A) (xs ys : List A) (k : ℕ) (x y : A) → ys ≡ up_to f k xs
    → k < length ys → x ≡ get_or ys k x → y ≡ f x → slice_set ys k y ≡ up_to f (k + 1) xs
step_on f xs ys k x y is low read same =
    let there : slice_get xs k ≡ Some x =
    sym (still_there f xs k) ∙ ap (λ zs. slice_get zs k) (sym is)
    ∙ slice_get_read ys (length ys) k x refl low read in
    ap (slice_set ys k) same ∙ ap (λ zs. slice_set zs k (f x)) is ∙ one_more f xs k x there
    ∙ ap (λ n. up_to f n xs) (sym (add-one k))

-- what is told of each follows
pub told_set : {A B : Type 0} (g : A → B) (xs : List A) (k : ℕ) (x : A)
    → slice_set (map g xs) k (g x) ≡ map g (slice_set xs k x)
told_set g [] k x = refl
told_set g (y ∷ ys) zero x = refl
told_set g (y ∷ ys) (suc k) x = ap (λ zs. g y ∷ zs) (told_set g ys k x)

-- and stays, where it is told of the new one as of the one before
pub told_kept : {A B : Type 0} (g : A → B) (xs : List A) (k : ℕ) (x y : A)
    → slice_get xs k ≡ Some x → g y ≡ g x → map g (slice_set xs k y) ≡ map g xs
told_kept g [] k x y get same = refl
told_kept g (z ∷ zs) zero x y get same =
    ap (λ b. b ∷ map g zs) (same ∙ ap g (sym (some_is z x get)))
told_kept g (z ∷ zs) (suc k) x y get same =
    ap (λ bs. g z ∷ bs) (told_kept g zs k x y get same)

-- also where one is put between
pub told_insert : {A B : Type 0} (g : A → B) (xs : List A) (k : ℕ) (x : A)
    → insert (map g xs) k (g x) ≡ map g (insert xs k x)
told_insert g [] zero x = refl
told_insert g [] (suc k) x = refl
told_insert g (y ∷ ys) zero x = refl
told_insert g (y ∷ ys) (suc k) x = ap (λ zs. g y ∷ zs) (told_insert g ys k x)

-- there are as many
pub up_to_many : {A : Type 0} (f : A → A) (k : ℕ) (xs : List A)
    → length (up_to f k xs) ≡ length xs
up_to_many f zero xs = refl
up_to_many f (suc k) [] = refl
up_to_many f (suc k) (x ∷ xs) = ap suc (up_to_many f k xs)
