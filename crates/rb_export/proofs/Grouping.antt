-- The first group of a list, and what is left behind it.
use Rattle.std.proofs.Common.{◌≡◌, ◌∙◌, ◌<◌, ◌≤◌, ℕ, suc, Bool, true, false, cond, List, [], ◌∷◌, length, take, drop, get_or, nat_eq, bytes_eq, refl, ap, sym, arith}
use Rattle.rb_causes.proofs.Texts.{text_is, same_text, text_turned}
use Rattle.rb_export.specs.Groups.{onto_groups, groups_by, count_of_name}

most_by : (b : Bool) (n m : ℕ) → n ≤ m → cond b (suc n) 0 ≤ suc m
most_by true n m h = omega (arith, h)
most_by false n m h = omega (arith, h)

-- no more items have the name than there are
pub count_most : {A : Type 0} (name : A → List ℕ) (wanted : List ℕ) (xs : List A)
    → count_of_name name wanted xs ≤ length xs
count_most name wanted [] = omega arith
count_most name wanted (x ∷ xs) =
    most_by (bytes_eq (name x) wanted) (count_of_name name wanted xs) (length xs)
    (count_most name wanted xs)

-- the first has its own name
pub count_some : {A : Type 0} (name : A → List ℕ) (x : A) (xs : List A)
    → count_of_name name (name x) (x ∷ xs) ≡ suc (count_of_name name (name x) xs)
count_some name x xs =
    ap (λ b. cond b (suc (count_of_name name (name x) xs)) 0) (same_text (name x) (name x) refl)

-- the groups of a list whose first item is in front of one that has the name, or has not
onto_by : {A : Type 0} (name : A → List ℕ) (x y : A) (ys : List A) (b : Bool)
    → bytes_eq (name y) (name x) ≡ b
    → groups_by name (y ∷ ys)
    ≡ (name y, y ∷ take (count_of_name name (name y) ys) ys)
    ∷ groups_by name (drop (count_of_name name (name y) ys) ys)
    → onto_groups (name x) x (groups_by name (y ∷ ys))
    ≡ (name x, x ∷ take (cond b (suc (count_of_name name (name x) ys)) 0) (y ∷ ys))
    ∷ groups_by name (drop (cond b (suc (count_of_name name (name x) ys)) 0) (y ∷ ys))
onto_by name x y ys true same h =
    let e = text_is (name y) (name x) same in
    ap (onto_groups (name x) x) h
    ∙ ap (λ b. cond b ((name x, x ∷ y ∷ take (count_of_name name (name y) ys) ys)
    ∷ groups_by name (drop (count_of_name name (name y) ys) ys))
    ((name x, x ∷ []) ∷ (name y, y ∷ take (count_of_name name (name y) ys) ys)
    ∷ groups_by name (drop (count_of_name name (name y) ys) ys)))
    (same_text (name x) (name y) (sym e))
    ∙ ap (λ k. (name x, x ∷ y ∷ take (count_of_name name k ys) ys)
    ∷ groups_by name (drop (count_of_name name k ys) ys)) e
onto_by name x y ys false same h =
    let g = groups_by name (drop (count_of_name name (name y) ys) ys) in
    let all = (name y, y ∷ take (count_of_name name (name y) ys) ys) ∷ g in
    ap (onto_groups (name x) x) h
    ∙ ap (λ b. cond b ((name x, x ∷ y ∷ take (count_of_name name (name y) ys) ys) ∷ g)
    ((name x, x ∷ []) ∷ all)) (text_turned (name x) (name y) ∙ same)
    ∙ ap (λ gs. (name x, x ∷ []) ∷ gs) (sym h)

-- a list that is not empty begins with the items that have the name of the first
pub first_group : {A : Type 0} (name : A → List ℕ) (x : A) (xs : List A)
    → groups_by name (x ∷ xs)
    ≡ (name x, x ∷ take (count_of_name name (name x) xs) xs)
    ∷ groups_by name (drop (count_of_name name (name x) xs) xs)
first_group name x [] = refl
first_group name x (y ∷ ys) =
    onto_by name x y ys (bytes_eq (name y) (name x)) refl (first_group name y ys)

-- the same, where the list is known by its first item and its length
pub first_parts : {A : Type 0} (name : A → List ℕ) (xs : List A) (x : A) (k : List ℕ) (n : ℕ)
    (rest : List A) → xs ≡ x ∷ rest → k ≡ name x → n ≡ count_of_name name k xs
    → groups_by name xs ≡ (k, take n xs) ∷ groups_by name (drop n xs)
first_parts name xs x k n rest is key count =
    let m = count_of_name name (name x) rest in
    let all : n ≡ suc m = count ∙ ap (λ q. count_of_name name q xs) key
    ∙ ap (count_of_name name (name x)) is ∙ count_some name x rest in
    ap (groups_by name) is
    ∙ first_group name x rest
    ∙ ap (λ q. (q, x ∷ take m rest) ∷ groups_by name (drop m rest)) (sym key)
    ∙ ap (λ q. (k, take q (x ∷ rest)) ∷ groups_by name (drop q (x ∷ rest))) (sym all)
    ∙ ap (λ ys. (k, take n ys) ∷ groups_by name (drop n ys)) (sym is)

-- a list that begins with this item
pub begins_with : {A : Type 0} (xs : List A) (x : A) → 0 < length xs → x ≡ get_or xs 0 x
    → (rest : List A) × (xs ≡ x ∷ rest)
begins_with [] x some is = absurd (omega (arith, some))
begins_with (y ∷ ys) x some is = (ys, ap (λ z. z ∷ ys) (sym is))

pub some_items : {A : Type 0} (xs : List A) → nat_eq (length xs) 0 ≡ false → 0 < length xs
some_items [] h = let never : ⊥ = cc in absurd never
some_items (x ∷ xs) h = omega arith
