-- Texts that differ: each is new behind those before it.
use Rattle.std.proofs.Common.{◌≡◌, ℕ, Bool, true, false, not, ◌&&◌, ◌||◌, bytes_eq, List, [], ◌∷◌, ◌++◌, refl, ap, ◌∙◌}
use Rattle.std.specs.List.{list_all}
use Rattle.std.proofs.lemmas.List.Folds.{list_any-append}
use Rattle.rb_causes.specs.Texts.{differ, has_text, are_new}
use Rattle.rb_causes.proofs.Texts.{text_turned}

-- none of these was seen
abbrev none_seen : List (List ℕ) → List (List ℕ) → Bool
none_seen seen texts = list_all (λ t. not (has_text seen t)) texts

one_more : (s e n h : Bool) → (not (s || (e || false)) && (n && not h)) ≡ ((not s && n) && not (e || h))
one_more true e n h = refl
one_more false true true h = refl
one_more false true false h = refl
one_more false false n h = refl

seen_more : (texts seen : List (List ℕ)) (t : List ℕ) → none_seen (seen ++ t ∷ []) texts ≡ (none_seen seen texts && not (has_text texts t))
seen_more [] seen t = refl
seen_more (x ∷ xs) seen t =
    ap (λ b. not b && none_seen (seen ++ t ∷ []) xs) (list_any-append (λ y. bytes_eq y x) seen (t ∷ []))
    ∙ ap (λ b. not (has_text seen x || (bytes_eq t x || false)) && b) (seen_more xs seen t)
    ∙ one_more (has_text seen x) (bytes_eq t x) (none_seen seen xs) (has_text xs t)
    ∙ ap (λ b. (not (has_text seen x) && none_seen seen xs) && not (b || has_text xs t)) (text_turned t x)

shuffled : (s d n h : Bool) → (not s && (d && (n && not h))) ≡ ((not h && d) && (not s && n))
shuffled true d n true = refl
shuffled true true n false = refl
shuffled true false n false = refl
shuffled false true true true = refl
shuffled false true true false = refl
shuffled false true false true = refl
shuffled false true false false = refl
shuffled false false n true = refl
shuffled false false n false = refl

new_unseen : (texts seen : List (List ℕ)) → are_new seen texts ≡ (differ texts && none_seen seen texts)
new_unseen [] seen = refl
new_unseen (t ∷ ts) seen =
    ap (λ b. not (has_text seen t) && b) (new_unseen ts (seen ++ t ∷ []))
    ∙ ap (λ b. not (has_text seen t) && (differ ts && b)) (seen_more ts seen t)
    ∙ shuffled (has_text seen t) (differ ts) (none_seen seen ts) (has_text ts t)

unseen_all : (texts : List (List ℕ)) → none_seen [] texts ≡ true
unseen_all [] = refl
unseen_all (t ∷ ts) = unseen_all ts

and_true : (b : Bool) → (b && true) ≡ b
and_true true = refl
and_true false = refl

-- of texts each is new behind those before it exactly where they differ
pub new_is_differ : (texts : List (List ℕ)) → are_new [] texts ≡ differ texts
new_is_differ texts = new_unseen texts [] ∙ ap (λ b. differ texts && b) (unseen_all texts) ∙ and_true (differ texts)
