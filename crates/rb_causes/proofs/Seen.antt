-- Texts that are among others.
use Rattle.std.proofs.Common.{◌≡◌, ℕ, Bool, true, false, cond, ◌||◌, bytes_eq, List, [], ◌∷◌, ◌++◌, refl, ap, ◌∙◌}
use Rattle.rb_causes.specs.Texts.{has_text}

or_false : (t : Bool) → (t || false) ≡ cond t true false
or_false true = refl
or_false false = refl

or_cond : (x t y : Bool) → (x || cond t true y) ≡ cond t true (x || y)
or_cond true true y = refl
or_cond true false y = refl
or_cond false true y = refl
or_cond false false y = refl

pub has_more : (texts : List (List ℕ)) (text q : List ℕ) → has_text (texts ++ text ∷ []) q ≡ cond (bytes_eq text q) true (has_text texts q)
has_more [] text q = or_false (bytes_eq text q)
has_more (x ∷ xs) text q = ap (λ t. bytes_eq x q || t) (has_more xs text q) ∙ or_cond (bytes_eq x q) (bytes_eq text q) (has_text xs q)
