-- What stands at a place of a list.
use Rattle.std.proofs.Common.{◌≡◌, ℕ, ◌+◌, ◌<◌, Bool, true, false, ◌||◌, ◌⊎◌, inl, inr, zero, suc, List, [], ◌∷◌, ◌++◌, map, take, drop, length, get_or, sym, ap, ◌∙◌, subst, arith, refl, zero-add}
use Rattle.std.specs.List.{list_any, list_all}
use Rattle.std.proofs.lemmas.Bool.{and_parts, and_from, and_left, and_right}
use Rattle.rb_flow.specs.declared.unit_state.UnitState.{UnitState}
use Rattle.rb_flow.specs.Order.{passes_at}

abbrev pub At : {X : Type 0} → List X → ℕ → X → Type 0
At [] i x = ⊥
At (y ∷ ys) zero x = y ≡ x
At (y ∷ ys) (suc i) x = At ys i x

pub at_less : {X : Type 0} (xs : List X) (i : ℕ) (x : X) → At xs i x → i < length xs
at_less [] i x h = absurd h
at_less (y ∷ ys) zero x h = omega arith
at_less (y ∷ ys) (suc i) x h = let r = at_less ys i x h in omega (arith, r)

pub at_read : {X : Type 0} (xs : List X) (i : ℕ) (x : X) → i < length xs → x ≡ get_or xs i x
    → At xs i x
at_read [] i x h e = absurd (omega (arith, h))
at_read (y ∷ ys) zero x h e = sym e
at_read (y ∷ ys) (suc i) x h e = at_read ys i x (omega (arith, h)) e

pub at_some : {X : Type 0} (xs : List X) (i : ℕ) → i < length xs → (x : X) × At xs i x
at_some [] i h = absurd (omega (arith, h))
at_some (y ∷ ys) zero h = (y, refl)
at_some (y ∷ ys) (suc i) h = at_some ys i (omega (arith, h))

pub at_same : {X : Type 0} (xs : List X) (i : ℕ) (x y : X) → At xs i x → At xs i y → x ≡ y
at_same [] i x y h g = absurd h
at_same (z ∷ zs) zero x y h g = sym h ∙ g
at_same (z ∷ zs) (suc i) x y h g = at_same zs i x y h g

pub at_get : {X : Type 0} (xs : List X) (i : ℕ) (x d : X) → At xs i x → get_or xs i d ≡ x
at_get [] i x d h = absurd h
at_get (y ∷ ys) zero x d h = h
at_get (y ∷ ys) (suc i) x d h = at_get ys i x d h

pub at_map : {X Y : Type 0} (f : X → Y) (xs : List X) (i : ℕ) (x : X) → At xs i x
    → At (map f xs) i (f x)
at_map f [] i x h = absurd h
at_map f (y ∷ ys) zero x h = ap f h
at_map f (y ∷ ys) (suc i) x h = at_map f ys i x h

pub at_take : {X : Type 0} (n : ℕ) (xs : List X) (i : ℕ) (x : X) → At (take n xs) i x
    → (At xs i x) × (i < n)
at_take zero xs i x h = absurd h
at_take (suc n) [] i x h = absurd h
at_take (suc n) (y ∷ ys) zero x h = (h, omega arith)
at_take (suc n) (y ∷ ys) (suc i) x h = let r = at_take n ys i x h in (r.0, omega (arith, r.1))

pub take_at : {X : Type 0} (n : ℕ) (xs : List X) (i : ℕ) (x : X) → At xs i x → i < n
    → At (take n xs) i x
take_at zero xs i x h l = absurd (omega (arith, l))
take_at (suc n) [] i x h l = absurd h
take_at (suc n) (y ∷ ys) zero x h l = h
take_at (suc n) (y ∷ ys) (suc i) x h l = take_at n ys i x h (omega (arith, l))

pub at_drop : {X : Type 0} (m : ℕ) (xs : List X) (i j : ℕ) (x : X) → j ≡ m + i
    → At (drop m xs) i x → At xs j x
at_drop zero xs i j x e h = subst (λ k. At xs k x) (sym (e ∙ zero-add i)) h
at_drop (suc m) [] i j x e h = absurd h
at_drop (suc m) (y ∷ ys) i zero x e h = absurd (omega (arith, e))
at_drop (suc m) (y ∷ ys) i (suc j) x e h = at_drop m ys i j x (omega (arith, e)) h

pub drop_at : {X : Type 0} (m : ℕ) (xs : List X) (i j : ℕ) (x : X) → j ≡ m + i → At xs j x
    → At (drop m xs) i x
drop_at zero xs i j x e h = subst (λ k. At xs k x) (e ∙ zero-add i) h
drop_at (suc m) [] i j x e h = absurd h
drop_at (suc m) (y ∷ ys) i zero x e h = absurd (omega (arith, e))
drop_at (suc m) (y ∷ ys) i (suc j) x e h = drop_at m ys i j x (omega (arith, e)) h

pub at_either : {X : Type 0} (xs ys : List X) (i : ℕ) (x : X) → At (xs ++ ys) i x
    → At xs i x ⊎ ((j : ℕ) × (i ≡ length xs + j) × At ys j x)
at_either [] ys i x h = inr (i, omega arith, h)
at_either (z ∷ zs) ys zero x h = inl h
at_either (z ∷ zs) ys (suc i) x h = elim (at_either zs ys i x h) [
  | inl a ↦ inl a
  | inr b ↦ inr (b.0, let e = b.1 in omega (arith, e), b.2)
]

pub all_at : {X : Type 0} (test : X → Bool) (xs : List X)
    → ((i : ℕ) (x : X) → At xs i x → test x ≡ true) → list_all test xs ≡ true
all_at test [] f = refl
all_at test (x ∷ xs) f =
    and_from (test x) (list_all test xs) (f 0 x refl) (all_at test xs (λ i. f (suc i)))

pub not_all : {X : Type 0} (test : X → Bool) (xs : List X) (i : ℕ) (x : X) → At xs i x
    → test x ≡ false → list_all test xs ≡ false
not_all test [] i x h e = absurd h
not_all test (y ∷ ys) zero x h e = and_left (test y) (list_all test ys) (ap test h ∙ e)
not_all test (y ∷ ys) (suc i) x h e =
    and_right (test y) (list_all test ys) (not_all test ys i x h e)

pub from_all : {X : Type 0} (test : X → Bool) (xs : List X) (i : ℕ) (x : X)
    → list_all test xs ≡ true → At xs i x → test x ≡ true
from_all test [] i x e h = absurd h
from_all test (y ∷ ys) zero x e h =
    ap test (sym h) ∙ (and_parts (test y) (list_all test ys) e).0
from_all test (y ∷ ys) (suc i) x e h =
    from_all test ys i x (and_parts (test y) (list_all test ys) e).1 h

pub any_alike : {X : Type 0} (f g : X → Bool) (xs : List X)
    → ((i : ℕ) (x : X) → At xs i x → f x ≡ g x) → list_any f xs ≡ list_any g xs
any_alike f g [] e = refl
any_alike f g (x ∷ xs) e = ap (λ b. b || list_any f xs) (e 0 x refl)
    ∙ ap (λ b. g x || b) (any_alike f g xs (λ i. e (suc i)))

pub at_passes : (test : UnitState → Bool) (ss : List UnitState) (i : ℕ) (s : UnitState) → At ss i s
    → passes_at test ss i ≡ test s
at_passes test [] i s h = absurd h
at_passes test (x ∷ xs) zero s h = ap test h
at_passes test (x ∷ xs) (suc i) s h = at_passes test xs i s h

pub passing : (test : UnitState → Bool) (ss : List UnitState) (i : ℕ) → passes_at test ss i ≡ true
    → (s : UnitState) × At ss i s × (test s ≡ true)
passing test [] i e = absurd (cc)
passing test (x ∷ xs) zero e = (x, refl, e)
passing test (x ∷ xs) (suc i) e = passing test xs i e

-- what passes nowhere
pub fails_at : (test : UnitState → Bool) (ss : List UnitState) (i : ℕ)
    → ((s : UnitState) → At ss i s → test s ≡ false) → passes_at test ss i ≡ false
fails_at test [] i f = refl
fails_at test (x ∷ xs) zero f = f x refl
fails_at test (x ∷ xs) (suc i) f = fails_at test xs i f

pub at_get_or : {X : Type 0} (xs : List X) (i : ℕ) (d : X) → i < length xs
    → At xs i (get_or xs i d)
at_get_or [] i d h = absurd (omega (arith, h))
at_get_or (y ∷ ys) zero d h = refl
at_get_or (y ∷ ys) (suc i) d h = at_get_or ys i d (omega (arith, h))

-- the same in a list that is this one
pub at_slice : {X : Type 0} (ys xs : List X) (i : ℕ) (d : X) → ys ≡ xs → i < length ys
    → At xs i (get_or ys i d)
at_slice ys xs i d e h = subst (λ l. At l i (get_or ys i d)) e (at_get_or ys i d h)
