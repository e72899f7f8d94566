-- The numbers below one: as many as it, each at its own place.
use Rattle.std.proofs.Common.{◌≡◌, ◌∙◌, ◌<◌, ◌+◌, ◌⊎◌, inl, inr, ℕ, zero, suc, [], ◌∷◌, ◌++◌, length, get_or, ap, sym, subst, refl, arith, length-append}
use Rattle.std.proofs.lemmas.List.{get_or_append_left, get_or-append-add}
use Rattle.rb_log.specs.Sums.{numbers_below}

pub below_length : (n : ℕ) → length (numbers_below n) ≡ n
below_length zero = refl
below_length (suc n) = omega (arith, length-append (numbers_below n) (n ∷ []), below_length n)

below_by : (n k d : ℕ) → (k < n) ⊎ (k ≡ n) → ((k : ℕ) → k < n → get_or (numbers_below n) k d ≡ k)
    → get_or (numbers_below n ++ n ∷ []) k d ≡ k
below_by n k d (inl low) h =
    get_or_append_left (numbers_below n) (n ∷ []) d k
    (subst (λ m. k < m) (sym (below_length n)) low)
    ∙ h k low
below_by n k d (inr is) h =
    ap (λ j. get_or (numbers_below n ++ n ∷ []) j d) (is ∙ whole (below_length n))
    ∙ get_or-append-add (numbers_below n) (n ∷ []) 0 d
    ∙ sym is
  where
    whole : length (numbers_below n) ≡ n → n ≡ length (numbers_below n) + 0
    whole h = omega (arith, h)

either_low : (k n : ℕ) → k < suc n → (k < n) ⊎ (k ≡ n)
either_low k n low = grind (arith, low)

-- each number stands at its own place
pub below_at : (n k d : ℕ) → k < n → get_or (numbers_below n) k d ≡ k
below_at zero k d low = absurd (omega (arith, low))
below_at (suc n) k d low = below_by n k d (either_low k n low) (λ j h. below_at n j d h)
