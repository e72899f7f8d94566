-- The longest run of bytes that pass a test, byte by byte.
use Rattle.std.proofs.Common.{◌≡◌, ◌+◌, ◌<◌, ◌≤◌, ℕ, Bool, true, false, List, length, drop, get_or, arith, sym, ◌∙◌, ap}
use Rattle.std.specs.List.{prefix_len}
use Rattle.std.proofs.lemmas.List.Sums.{prefix_len-drop_yes, prefix_len-drop_no, prefix_len-drop_all}

pub passes_at : (p : ℕ → Bool) (xs : List ℕ) (i b len : ℕ) → i < length xs → b ≡ get_or xs i 0 → p b ≡ true
    → len + prefix_len p (drop i xs) ≡ prefix_len p xs → len + 1 + prefix_len p (drop (i + 1) xs) ≡ prefix_len p xs
passes_at p xs i b len below is passes all =
    let step = prefix_len-drop_yes p xs i 0 below (ap p (sym is) ∙ passes) in omega (arith, step, all)

pub fails_at : (p : ℕ → Bool) (xs : List ℕ) (i b len : ℕ) → i < length xs → b ≡ get_or xs i 0 → p b ≡ false
    → len + prefix_len p (drop i xs) ≡ prefix_len p xs → len ≡ prefix_len p xs
fails_at p xs i b len below is fails all =
    let step = prefix_len-drop_no p xs i 0 below (ap p (sym is) ∙ fails) in omega (arith, step, all)

pub ends_at : (p : ℕ → Bool) (xs : List ℕ) (i len : ℕ) → length xs ≤ i
    → len + prefix_len p (drop i xs) ≡ prefix_len p xs → len ≡ prefix_len p xs
ends_at p xs i len past all =
    let step = prefix_len-drop_all p xs i past in omega (arith, step, all)
