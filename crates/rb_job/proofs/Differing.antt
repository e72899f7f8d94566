-- Texts of which each is new behind those before it.
use Rattle.std.proofs.Common.{◌≡◌, ℕ, Bool, true, false, not, ◌&&◌, ◌||◌, bytes_eq, List, [], ◌∷◌, ◌++◌, refl, ap, sym, ◌∙◌}
use Rattle.std.proofs.lemmas.Bool.{and_parts, not-true}
use Rattle.std.proofs.lemmas.List.Folds.{list_any-append}
use Rattle.std.proofs.lemmas.Slice.Eq.{bytes_eq-Decides}
use Rattle.rb_causes.specs.Texts.{differ, has_text, are_new}

other_text : (b : Bool) (texts : List (List ℕ)) (t x : List ℕ) → bytes_eq t x ≡ b → has_text texts t ≡ false → has_text texts x ≡ true → b ≡ false
other_text true texts t x is h s = let same : t ≡ x = (bytes_eq-Decides t x).0 is in let never : true ≡ false = sym s ∙ ap (has_text texts) (sym same) ∙ h in cc
other_text false texts t x is h s = refl

still_seen : (texts : List (List ℕ)) (t x : List ℕ) → has_text texts x ≡ true → has_text (texts ++ t ∷ []) x ≡ true
still_seen texts t x s = list_any-append (λ n. bytes_eq n x) texts (t ∷ []) ∙ ap (λ b. b || (bytes_eq t x || false)) s

or_true : (b : Bool) → (b || true) ≡ true
or_true true = refl
or_true false = refl

now_seen : (texts : List (List ℕ)) (t : List ℕ) → has_text (texts ++ t ∷ []) t ≡ true
now_seen texts t = list_any-append (λ n. bytes_eq n t) texts (t ∷ []) ∙ ap (λ b. has_text texts t || (b || false)) ((bytes_eq-Decides t t).1 refl) ∙ or_true (has_text texts t)

new_no_more : (texts seen : List (List ℕ)) (x : List ℕ) → are_new seen texts ≡ true → has_text seen x ≡ true → has_text texts x ≡ false
new_no_more [] seen x h s = refl
new_no_more (t ∷ ts) seen x h s =
    let parts = and_parts (not (has_text seen t)) (are_new (seen ++ t ∷ []) ts) h in
    ap (λ b. b || has_text ts x) (other_text (bytes_eq t x) seen t x refl (not-true (has_text seen t) parts.0) s)
    ∙ new_no_more ts (seen ++ t ∷ []) x parts.1 (still_seen seen t x s)

pub new_differ : (texts seen : List (List ℕ)) → are_new seen texts ≡ true → differ texts ≡ true
new_differ [] seen h = refl
new_differ (t ∷ ts) seen h =
    let parts = and_parts (not (has_text seen t)) (are_new (seen ++ t ∷ []) ts) h in
    ap (λ b. not b && differ ts) (new_no_more ts (seen ++ t ∷ []) t parts.1 (now_seen seen t)) ∙ new_differ ts (seen ++ t ∷ []) parts.1
