-- Texts that are the same, and texts that are not.
use Rattle.std.proofs.Common.{◌≡◌, ◌≢◌, ◌∙◌, ℕ, List, true, false, bytes_eq, sym, ap}
use Rattle.std.specs.Ordering.{nat_cmp, is_eq}
use Rattle.std.specs.Cmp.Lexicographic.{slice_cmp}
use Rattle.std.specs.declared.cmp.Ordering.{Ordering}
use Rattle.std.proofs.lemmas.Bool.{false_from_ne_true}
use Rattle.std.proofs.lemmas.Bool.Decides.{same_from_decides}
use Rattle.std.proofs.lemmas.Map.Text.{is_eq-slice_cmp}
use Rattle.std.proofs.lemmas.Slice.Eq.{bytes_eq-Decides}

pub text_is : (a b : List ℕ) → bytes_eq a b ≡ true → a ≡ b
text_is a b h = (bytes_eq-Decides a b).0 h

pub same_text : (a b : List ℕ) → a ≡ b → bytes_eq a b ≡ true
same_text a b h = (bytes_eq-Decides a b).1 h

pub other_text : (a b : List ℕ) → a ≢ b → bytes_eq a b ≡ false
other_text a b h = false_from_ne_true (bytes_eq a b) (λ same. h (text_is a b same))

-- either way round
pub text_turned : (a b : List ℕ) → bytes_eq a b ≡ bytes_eq b a
text_turned a b = same_from_decides (bytes_eq a b) (bytes_eq b a) (bytes_eq-Decides a b)
    (λ h. sym (text_is b a h), λ e. same_text b a (sym e))

-- in order they are equal where they are the same
pub text_order : (a b : List ℕ) (o : Ordering) → slice_cmp nat_cmp a b ≡ o
    → bytes_eq a b ≡ is_eq o
text_order a b o h = sym (is_eq-slice_cmp a b) ∙ ap is_eq h
