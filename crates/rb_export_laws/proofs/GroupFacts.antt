-- What holds of groups of neighbours.
use Rattle.std.proofs.Common.{◌≡◌, ◌∙◌, ℕ, Bool, true, false, cond, List, [], ◌∷◌, ◌++◌, bytes_eq, refl, ap, append_assoc}
use Rattle.std.specs.List.{flat_map, AllByRecursion as Each}
use Rattle.rb_causes.proofs.Texts.{text_is}
use Rattle.rb_export.specs.Groups.{Group, onto_groups, groups_by}

-- a view of groups that has a piece for each item
abbrev pub Splits : {A B : Type 0} → (Group A → List B) → Type 0
Splits {A = A} view = (name : List ℕ) (x : A) (xs : List A) →
    view (name, x ∷ xs) ≡ view (name, x ∷ []) ++ view (name, xs)

flat_onto : {A B : Type 0} (view : Group A → List B) → Splits view → (k : List ℕ) (x : A)
    → (gs : List (Group A))
    → flat_map view (onto_groups k x gs) ≡ view (k, x ∷ []) ++ flat_map view gs
flat_onto view splits k x [] = refl
flat_onto {A = A} view splits k x (g ∷ gs) = by_test (bytes_eq k g.0) refl
  where
    by_test : (b : Bool) → bytes_eq k g.0 ≡ b
        → flat_map view (cond b ((k, x ∷ g.1) ∷ gs) ((k, x ∷ []) ∷ g ∷ gs))
        ≡ view (k, x ∷ []) ++ (view g ++ flat_map view gs)
    by_test true same =
        ap (λ v. v ++ flat_map view gs) (splits k x g.1)
        ∙ append_assoc (view (k, x ∷ [])) (view (k, g.1)) (flat_map view gs)
        ∙ ap (λ n. view (k, x ∷ []) ++ (view (n, g.1) ++ flat_map view gs)) (text_is k g.0 same)
    by_test false other = refl

-- the pieces of all groups are those of the items
pub flat_groups : {A B : Type 0} (view : Group A → List B) → Splits view → (name : A → List ℕ)
    → (xs : List A)
    → flat_map view (groups_by name xs) ≡ flat_map (λ x. view (name x, x ∷ [])) xs
flat_groups view splits name [] = refl
flat_groups view splits name (x ∷ xs) =
    flat_onto view splits (name x) x (groups_by name xs)
    ∙ ap (λ ys. view (name x, x ∷ []) ++ ys) (flat_groups view splits name xs)

each_onto : {A : Type 0} (P : Group A → Type 0) (k : List ℕ) (x : A)
    → ((ys : List A) → P (k, x ∷ ys)) → (gs : List (Group A)) → Each P gs
    → Each P (onto_groups k x gs)
each_onto P k x h [] all = (h [], tt)
each_onto {A = A} P k x h (g ∷ gs) all = by_test (bytes_eq k g.0)
  where
    by_test : (b : Bool) → Each P (cond b ((k, x ∷ g.1) ∷ gs) ((k, x ∷ []) ∷ g ∷ gs))
    by_test true = (h g.1, all.1)
    by_test false = (h [], all)

-- what holds of each name with items of which the first has it
pub each_group : {A : Type 0} (P : Group A → Type 0) (name : A → List ℕ)
    → ((x : A) (xs : List A) → P (name x, x ∷ xs)) → (xs : List A) → Each P (groups_by name xs)
each_group P name h [] = tt
each_group P name h (x ∷ xs) =
    each_onto P (name x) x (h x) (groups_by name xs) (each_group P name h xs)

-- what each item gives by itself
pub single_all : {A : Type 0} (P : A → Type 0) (f : A → List A)
    → ((x : A) → P x → f x ≡ x ∷ []) → (xs : List A) → Each P xs → flat_map f xs ≡ xs
single_all P f h [] all = refl
single_all P f h (x ∷ xs) all =
    ap (λ ys. ys ++ flat_map f xs) (h x all.0) ∙ ap (λ ys. x ∷ ys) (single_all P f h xs all.1)
