-- A search among places that ascend.
use Rattle.std.proofs.Common.{◌≡◌, ℕ, ◌+◌, cond, nat_eq, List, [], ◌∷◌, get_or, Result, Ok, Err, inl, inr, refl, sym, ◌∙◌, ap, arith}
use Rattle.std.specs.List.{list_any}
use Rattle.std.specs.List.Sorted.{IsPermutation, IsNonDecreasing, IsBinarySearchResult}
use Rattle.std.specs.Ordering.{nat_cmp}
use Rattle.std.specs.Result.{is_ok}
use Rattle.std.proofs.lemmas.Bool.{eq-eqb, cases_lt, ne_eqb}
use Rattle.std.proofs.lemmas.List.{get_or_default}
use Rattle.std.proofs.lemmas.List.Folds.{list_any_at, list_any_none}
use Rattle.std.proofs.lemmas.List.Sorted.{searched, list_any-IsPermutation}
use Rattle.rb_orch.specs.Picking.{standing_at}

pub among : (xs : List ℕ) (place : ℕ) (r : Result ℕ ℕ)
    → IsBinarySearchResult (λ y. nat_cmp y place) xs r → IsNonDecreasing xs → is_ok r
    ≡ list_any (λ q. nat_eq q place) xs
among xs place (Ok i) found up =
    let at = searched xs place (Ok i) found (λ i j le lt. up i j 0 le lt) in
    sym (list_any_at (λ q. nat_eq q place) xs i 0 at.0 (eq-eqb _ _ at.1))
among xs place (Err i) found up =
    let at = searched xs place (Err i) found (λ i j le lt. up i j 0 le lt) in
    sym (list_any_none (λ q. nat_eq q place) xs (λ k d l. ne_eqb (get_or xs k d) place (λ e.
    let here : get_or xs k 0 ≡ place = get_or_default xs k 0 d l ∙ e in
    elim (cases_lt k i) [
      | inl before ↦ let less = at.1 k before in omega (arith, here, less)
      | inr behind ↦ let more = at.2 k behind l in omega (arith, here, more)
    ])))

-- the places' own order doesn't matter
pub standing_alike : {A : Type 0} (taken sorted : List ℕ) → IsPermutation taken sorted
    → (start : ℕ) (xs : List A) → standing_at sorted start xs ≡ standing_at taken start xs
standing_alike taken sorted moved start [] = refl
standing_alike taken sorted moved start (x ∷ xs) =
    let rest = standing_alike taken sorted moved (start + 1) xs in
    ap (λ b. cond b (x ∷ standing_at sorted (start + 1) xs) (standing_at sorted (start + 1) xs))
    (sym (list_any-IsPermutation (λ q. nat_eq q start) taken sorted moved))
    ∙ ap (λ l. cond (list_any (λ q. nat_eq q start) taken) (x ∷ l) l) rest
