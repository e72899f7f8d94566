-- The first part of a list that is cut where a test passes.
use Rattle.std.proofs.Common.{◌≡◌, ℕ, suc, ◌+◌, ◌<◌, ◌≤◌, Bool, true, false, not, cond, ltb, List, [], ◌∷◌, length, take, drop, get_or, Some, None, refl, ap, subst, arith}
use Rattle.std.specs.List.{slice_split, onto_first, position, position_or_len}
use Rattle.std.specs.Str.{IsUtf8, is_utf8}
use Rattle.std.proofs.lemmas.List.Splits.{slice_split_first}
use Rattle.std.proofs.lemmas.List.Quantifiers.{position-Some}
use Rattle.std.proofs.lemmas.Bool.Decides.{nat_tests}
use Rattle.std.proofs.lemmas.Str.{IsUtf8-from_is_utf8}
use Rattle.rb_causes.specs.Texts.{is_blank}

module _ (p : ℕ → Bool) (x : ℕ) (xs : List ℕ) where
  uncut_at : (b : Bool) → (length xs ≤ position_or_len p xs → slice_split p xs ≡ xs ∷ []) → suc (length xs) ≤ cond (not b) (1 + position_or_len p xs) 0
      → cond b ([] ∷ slice_split p xs) (onto_first x (slice_split p xs)) ≡ (x ∷ xs) ∷ []
  uncut_at true before h = absurd (omega arith)
  uncut_at false before h = ap (onto_first x) (before (omega arith))

-- a test that passes nowhere cuts nothing
uncut : (p : ℕ → Bool) (xs : List ℕ) → length xs ≤ position_or_len p xs → slice_split p xs ≡ xs ∷ []
uncut p [] h = refl
uncut p (x ∷ xs) h = uncut_at p x xs (p x) (uncut p xs) h

module _ (p : ℕ → Bool) (xs : List ℕ) where
  parts_at : (n i : ℕ) → (n < length xs → slice_split p xs ≡ take n xs ∷ slice_split p (drop (n + 1) xs)) → cond (ltb n (length xs)) (Some n) None ≡ Some i
      → slice_split p xs ≡ take i xs ∷ slice_split p (drop (i + 1) xs)
  parts_at n i parts found =
      let within : n < length xs = grind (arith, nat_tests) in
      let same : n ≡ i = grind (arith, nat_tests) in
      subst (λ k. slice_split p xs ≡ take k xs ∷ slice_split p (drop (k + 1) xs)) same (parts within)

  past_end : (n : ℕ) → cond (ltb n (length xs)) (Some n) None ≡ None → length xs ≤ n
  past_end n none = grind (arith, nat_tests)

  -- what `position` says of the parts
  pub position-Some-parts : (i : ℕ) → position p xs ≡ Some i → slice_split p xs ≡ take i xs ∷ slice_split p (drop (i + 1) xs)
  position-Some-parts i found = parts_at (position_or_len p xs) i (slice_split_first p xs 0) found

  pub position-None-parts : position p xs ≡ None → slice_split p xs ≡ xs ∷ []
  position-None-parts none = uncut p xs (past_end (position_or_len p xs) none)

-- where the first blank is, there is an ASCII byte
pub blank_at : (xs : List ℕ) (i : ℕ) → position is_blank xs ≡ Some i → (i < length xs) × (get_or xs i 0 < 128)
blank_at xs i found =
    let at = position-Some is_blank xs i 0 found in
    let blank = at.1 in
    (at.0, grind (arith, nat_tests))

utf8_at : (bs : List ℕ) (b : Bool) → is_utf8 bs ≡ b → (IsUtf8 bs → ⊥) → is_utf8 bs ≡ false
utf8_at bs true h not = absurd (not (IsUtf8-from_is_utf8 bs h))
utf8_at bs false h not = h

pub not_utf8 : (bs : List ℕ) → (IsUtf8 bs → ⊥) → is_utf8 bs ≡ false
not_utf8 bs not = utf8_at bs (is_utf8 bs) refl not
