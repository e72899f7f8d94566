-- Marks of many at once, as they are put together.
use Rattle.std.proofs.Common.{◌≡◌, ◌∙◌, ◌<◌, ◌+◌, ℕ, Bool, not, ◌&&◌, ◌||◌, List, [], ◌∷◌, ◌++◌, length, map, take, get_or, ap, sym, refl}
use Rattle.std.specs.List.{list_all, list_any}
use Rattle.std.proofs.lemmas.List.{take_more, map_push}
use Rattle.std.proofs.lemmas.List.Folds.{list_all_more, list_any_more}
use Rattle.rb_text.specs.Truths.{both_true, one_true, first_true_alone}

-- what gives the same for each gives the same marks
pub maps_alike : {A B : Type 0} (f g : A → B) → ((x : A) → f x ≡ g x) → (xs : List A)
    → map f xs ≡ map g xs
maps_alike f g same [] = refl
maps_alike f g same (x ∷ xs) = ap (λ y. y ∷ map f xs) (same x) ∙ ap (λ ys. g x ∷ ys) (maps_alike f g same xs)

pub both_true_maps : {A : Type 0} (f g : A → Bool) (xs : List A) → both_true (map f xs) (map g xs)
    ≡ map (λ x. f x && g x) xs
both_true_maps f g [] = refl
both_true_maps f g (x ∷ xs) = ap (λ ys. (f x && g x) ∷ ys) (both_true_maps f g xs)

pub one_true_maps : {A : Type 0} (f g : A → Bool) (xs : List A) → one_true (map f xs) (map g xs)
    ≡ map (λ x. f x || g x) xs
one_true_maps f g [] = refl
one_true_maps f g (x ∷ xs) = ap (λ ys. (f x || g x) ∷ ys) (one_true_maps f g xs)

pub first_true_alone_maps : {A : Type 0} (f g : A → Bool) (xs : List A)
    → first_true_alone (map f xs) (map g xs) ≡ map (λ x. f x && not (g x)) xs
first_true_alone_maps f g [] = refl
first_true_alone_maps f g (x ∷ xs) = ap (λ ys. (f x && not (g x)) ∷ ys) (first_true_alone_maps f g xs)

-- one more of the tests, all of which have to hold
pub all_more : {A B : Type 0} (p : A → B → Bool) (tests : List A) (xs : List B) (i : ℕ) (t : A)
    (marks others new : List Bool) → i < length tests → t ≡ get_or tests i t
    → marks ≡ map (λ x. list_all (λ a. p a x) (take i tests)) xs → others ≡ map (p t) xs
    → new ≡ both_true marks others →
    new ≡ map (λ x. list_all (λ a. p a x) (take (i + 1) tests)) xs
all_more p tests xs i t marks others new below is so these put =
    put ∙ ap (λ m. both_true m others) so
    ∙ ap (both_true (map (λ x. list_all (λ a. p a x) (take i tests)) xs)) these
    ∙ both_true_maps (λ x. list_all (λ a. p a x) (take i tests)) (p t) xs
    ∙ maps_alike _ _
    (λ x. ap (λ a. list_all (λ a. p a x) (take i tests) && p a x) is
    ∙ sym (list_all_more (λ a. p a x) tests i t below)) xs

-- one more of the tests, one of which has to hold
pub any_more : {A B : Type 0} (p : A → B → Bool) (tests : List A) (xs : List B) (i : ℕ) (t : A)
    (marks others new : List Bool) → i < length tests → t ≡ get_or tests i t
    → marks ≡ map (λ x. list_any (λ a. p a x) (take i tests)) xs → others ≡ map (p t) xs
    → new ≡ one_true marks others →
    new ≡ map (λ x. list_any (λ a. p a x) (take (i + 1) tests)) xs
any_more p tests xs i t marks others new below is so these put =
    put ∙ ap (λ m. one_true m others) so
    ∙ ap (one_true (map (λ x. list_any (λ a. p a x) (take i tests)) xs)) these
    ∙ one_true_maps (λ x. list_any (λ a. p a x) (take i tests)) (p t) xs
    ∙ maps_alike _ _
    (λ x. ap (λ a. list_any (λ a. p a x) (take i tests) || p a x) is
    ∙ sym (list_any_more (λ a. p a x) tests i t below)) xs

-- one more mark is put
pub marks_more : {A B : Type 0} (f : B → Bool) (view : A → B) (xs : List A) (i : ℕ) (x : A)
    (marks new : List Bool) (mark : Bool) → i < length xs → x ≡ get_or xs i x
    → marks ≡ map f (map view (take i xs)) → mark ≡ f (view x) → new ≡ marks ++ mark ∷ [] →
    new ≡ map f (map view (take (i + 1) xs))
marks_more f view xs i x marks new mark below is so found put =
    put ∙ ap (λ ms. ms ++ mark ∷ []) so
    ∙ ap (λ m. map f (map view (take i xs)) ++ m ∷ []) found
    ∙ sym (ap (map f) (ap (map view)
    (take_more xs i x below ∙ ap (λ y. take i xs ++ y ∷ []) (sym is))
    ∙ map_push view (take i xs) x) ∙ map_push f (map view (take i xs)) (view x))
