-- Counts and tests of a list in parts.
use Rattle.std.proofs.Common.{◌≡◌, ℕ, ◌+◌, Bool, true, false, ◌||◌, ◌&&◌, zero, suc, cond, nat_lt, List, [], ◌∷◌, ◌++◌, take, drop, count_by, sym, ap, ◌∙◌, arith, refl}
use Rattle.std.specs.List.{list_any}
use Rattle.std.proofs.lemmas.Bool.{lt-ltb, le-ltb}
use Rattle.std.proofs.lemmas.List.{take-append-drop}
use Rattle.std.proofs.lemmas.List.Folds.{list_any-append}
use Rattle.std.proofs.lemmas.List.Sums.{sum_by-append}
use Rattle.std.proofs.Math.Bool.{and-false}
use Rattle.rb_marks.proofs.Counts.{count_cons}
use Rattle.rb_flow.specs.declared.unit_state.UnitState.{UnitState}

pub any_and : (f : UnitState → Bool) (x : Bool) (ss : List UnitState) → list_any (λ s. f s && x) ss
    ≡ (list_any f ss && x)
any_and f x [] = refl
any_and f x (s ∷ ss) = step (f s) (list_any f ss) (list_any (λ v. f v && x) ss) x (any_and f x ss)
  where
    step : (a b c x : Bool) → c ≡ (b && x) → ((a && x) || c) ≡ ((a || b) && x)
    step true b c true e = refl
    step true b c false e = e ∙ and-false b
    step false b c x e = e

pub some_counted : (f : UnitState → Bool) (ss : List UnitState) → nat_lt 0 (count_by f ss)
    ≡ list_any f ss
some_counted f [] = refl
some_counted f (s ∷ ss) = rw (count_cons f s ss)
    (step (f s) (count_by f ss) (list_any f ss) (some_counted f ss))
  where
    step : (b : Bool) (n : ℕ) (c : Bool) → nat_lt 0 n ≡ c → nat_lt 0 (cond b 1 0 + n) ≡ (b || c)
    step true n c e = lt-ltb 0 (1 + n) (omega arith)
    step false n c e = let z : 0 + n ≡ n = omega arith in rw z e

pub more_beside : (a b c : ℕ) → nat_lt b (a + (b + c)) ≡ (nat_lt 0 a || nat_lt 0 c)
more_beside zero b zero = le-ltb b (zero + (b + zero)) (omega arith)
more_beside zero b (suc c) = lt-ltb b (zero + (b + suc c)) (omega arith)
    ∙ sym (lt-ltb 0 (suc c) (omega arith))
more_beside (suc a) b c = lt-ltb b (suc a + (b + c)) (omega arith)
    ∙ ap (λ v. v || nat_lt 0 c) (sym (lt-ltb 0 (suc a) (omega arith)))

pub in_parts : (ss : List UnitState) (m n : ℕ) → ss
    ≡ take m ss ++ (take n (drop m ss) ++ drop n (drop m ss))
in_parts ss m n = sym (take-append-drop m ss)
    ∙ ap (λ r. take m ss ++ r) (sym (take-append-drop n (drop m ss)))

pub three_counts : (f : UnitState → Bool) (a b c : List UnitState) → count_by f (a ++ (b ++ c))
    ≡ count_by f a + (count_by f b + count_by f c)
three_counts f a b c = sum_by-append (λ s. cond (f s) 1 0) a (b ++ c)
    ∙ ap (λ k. count_by f a + k) (sum_by-append (λ s. cond (f s) 1 0) b c)

pub three_any : (f : UnitState → Bool) (a b c : List UnitState) → list_any f (a ++ (b ++ c))
    ≡ (list_any f a || (list_any f b || list_any f c))
three_any f a b c = list_any-append f a (b ++ c)
    ∙ ap (λ k. list_any f a || k) (list_any-append f b c)
