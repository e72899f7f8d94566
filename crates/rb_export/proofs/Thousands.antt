-- The next part of a list, and what is left behind it.
use Rattle.std.proofs.Common.{◌≡◌, ◌∙◌, ◌<◌, ℕ, zero, suc, min, List, [], ◌∷◌, length, take, drop, refl, ap, sym, arith}
use Rattle.rb_export.specs.Jobs.{onto_part, thousands}

part_of : {A : Type 0} (room : ℕ) (x : A) (xs : List A)
    → thousands room (x ∷ xs) ≡ (x ∷ take room xs) ∷ thousands 999 (drop room xs)
part_of zero x xs = refl
part_of (suc room) x [] = refl
part_of (suc room) x (y ∷ ys) = ap (onto_part x) (part_of room y ys)

least_none : (n : ℕ) → min n 0 ≡ 0
least_none n = omega arith

least_more : (n m : ℕ) → min (suc n) (suc m) ≡ suc (min n m)
least_more n m = omega arith

take_least : {A : Type 0} (n : ℕ) (xs : List A) → take (min (length xs) n) xs ≡ take n xs
take_least zero xs = ap (λ k. take k xs) (least_none (length xs))
take_least (suc n) [] =
    let none : min 0 (suc n) ≡ 0 = omega arith in ap (λ k. take k []) none
take_least (suc n) (x ∷ xs) =
    ap (λ k. take k (x ∷ xs)) (least_more (length xs) n) ∙ ap (λ ys. x ∷ ys) (take_least n xs)

drop_least : {A : Type 0} (n : ℕ) (xs : List A) → drop (min (length xs) n) xs ≡ drop n xs
drop_least zero xs = ap (λ k. drop k xs) (least_none (length xs))
drop_least (suc n) [] =
    let none : min 0 (suc n) ≡ 0 = omega arith in ap (λ k. drop k []) none
drop_least (suc n) (x ∷ xs) =
    ap (λ k. drop k (x ∷ xs)) (least_more (length xs) n) ∙ drop_least n xs

-- a list that is not empty begins with the part that is next
pub next_part : {A : Type 0} (xs : List A) → 0 < length xs
    → thousands 999 xs
    ≡ take (min (length xs) 1000) xs ∷ thousands 999 (drop (min (length xs) 1000) xs)
next_part [] some = absurd (omega (arith, some))
next_part (x ∷ xs) some =
    part_of 999 x xs
    ∙ ap (λ ys. ys ∷ thousands 999 (drop 999 xs)) (sym (take_least 1000 (x ∷ xs)))
    ∙ ap (λ ys. take (min (length (x ∷ xs)) 1000) (x ∷ xs) ∷ thousands 999 ys)
    (sym (drop_least 1000 (x ∷ xs)))
