-- Counts of a test that a list's elements pass, with one element set.
use Rattle.std.proofs.Common.{◌≡◌, ℕ, ◌+◌, ◌<◌, ◌≤◌, Bool, true, false, cond, ◌||◌, ◌&&◌, nat_eq, nat_lt, List, [], ◌∷◌, length, get_or, set, count_by, arith, refl, ap, sym, ◌∙◌, suc, zero-add, set-set}
use Rattle.std.specs.List.{list_any, list_all}
use Rattle.std.proofs.lemmas.List.{set-get_or}
use Rattle.std.proofs.lemmas.List.Sums.{sum_by-set, get_or-le-sum_by, count_by-le-length}
use Rattle.std.proofs.lemmas.Bool.{lt-ltb, eq-eqb, ne_eqb, eqb-true, eqb-false}
use Rattle.rb_marks.proofs.Counts.{count_cons}

-- with the new element set over the old one, the list is as it stands now
pub before_now : {X : Type 0} (xs : List X) (i : ℕ) (old : X)
    → set (set xs i old) i (get_or xs i old) ≡ xs
before_now xs i old = set-set xs i old (get_or xs i old) ∙ set-get_or xs i old

-- one element set
pub count_set : {X : Type 0} (f : X → Bool) (xs : List X) (i : ℕ) (y d : X) (n m : ℕ)
    → n ≡ count_by f xs → i < length xs → m + cond (f (get_or xs i d)) 1 0 ≡ n + cond (f y) 1 0
    → m ≡ count_by f (set xs i y)
count_set f xs i y d n m e h k =
    omega (arith, sum_by-set (λ x. cond (f x) 1 0) xs i y d h, e, k)

-- the same, where the list before is that with the old element set
pub count_back : {X : Type 0} (f : X → Bool) (xs : List X) (i : ℕ) (old d : X) (n m : ℕ)
    → n ≡ count_by f (set xs i old) → i < length xs
    → m + cond (f old) 1 0 ≡ n + cond (f (get_or xs i d)) 1 0 → m ≡ count_by f xs
count_back f xs i old d n m e h k =
    omega (arith, sum_by-set (λ x. cond (f x) 1 0) xs i old d h, e, k)

-- an element that passes is counted
pub counted_at : {X : Type 0} (f : X → Bool) (xs : List X) (i : ℕ) (d : X) → i < length xs
    → cond (f (get_or xs i d)) 1 0 ≤ count_by f xs
counted_at f xs i d h = get_or-le-sum_by (λ x. cond (f x) 1 0) xs i d h

some_counted : (b rest : Bool) (n : ℕ) → rest ≡ nat_lt 0 n → (b || rest) ≡ nat_lt 0 (cond b 1 0 + n)
some_counted true rest n e = sym (lt-ltb 0 (1 + n) (omega arith))
some_counted false rest n e = e ∙ ap (nat_lt 0) (sym (zero-add n))

pub any_is_count : {X : Type 0} (f : X → Bool) (xs : List X) → list_any f xs
    ≡ nat_lt 0 (count_by f xs)
any_is_count f [] = refl
any_is_count f (x ∷ xs) =
    some_counted (f x) (list_any f xs) (count_by f xs) (any_is_count f xs)
    ∙ ap (nat_lt 0) (sym (count_cons f x xs))

all_counted : (b rest : Bool) (n k : ℕ) → n ≤ k → rest ≡ nat_eq n k
    → (b && rest) ≡ nat_eq (cond b 1 0 + n) (suc k)
all_counted true true n k h e =
    sym (eq-eqb (1 + n) (suc k) (omega (arith, eqb-true n k (sym e))))
all_counted true false n k h e =
    sym (ne_eqb (1 + n) (suc k) (λ same. eqb-false n k (sym e) (omega (arith, same))))
all_counted false rest n k h e =
    sym (ne_eqb (0 + n) (suc k) (λ same. omega (arith, h, same)))

pub all_is_count : {X : Type 0} (f : X → Bool) (xs : List X) → list_all f xs
    ≡ nat_eq (count_by f xs) (length xs)
all_is_count f [] = refl
all_is_count f (x ∷ xs) =
    all_counted (f x) (list_all f xs) (count_by f xs) (length xs) (count_by-le-length f xs)
    (all_is_count f xs)
    ∙ ap (λ n. nat_eq n (suc (length xs))) (sym (count_cons f x xs))
