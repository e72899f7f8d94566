-- Keys that differ: the reader's test and the relation agree.
use Rattle.std.proofs.Common.{◌≡◌, ◌≢◌, ℕ, Bool, true, false, not, bytes_eq, List, [], ◌∷◌, ◌++◌, refl, sym, ◌∙◌}
use Rattle.std.proofs.lemmas.Slice.Eq.{bytes_eq-Decides}
use Rattle.std.proofs.lemmas.Bool.{and_parts, and_from, or_parts, or_from, not-true, not_from_false}
use Rattle.std.specs.List.{AllByRecursion as Each}
use Rattle.rb_causes.specs.Texts.{has_text, are_new}
use Rattle.rb_yaml_laws.specs.Keys.{Differ}
use Rattle.rb_yaml_laws.proofs.RowFacts.{each_append, each_left, each_right}

-- the key is none of these
abbrev IsNew : List (List ℕ) → List ℕ → Type 0
IsNew seen key = Each (λ old. old ≢ key) seen

pub unlike : (t : Bool) (a b : List ℕ) → bytes_eq a b ≡ t → a ≢ b → bytes_eq a b ≡ false
unlike true a b h n = absurd (n ((bytes_eq-Decides a b).0 h))
unlike false a b h n = h

new_read : (seen : List (List ℕ)) (key : List ℕ) → IsNew seen key → has_text seen key ≡ false
new_read [] key h = refl
new_read (old ∷ seen) key h = or_from (bytes_eq old key) (has_text seen key) (unlike (bytes_eq old key) old key refl h.0) (new_read seen key h.1)

new_meant : (seen : List (List ℕ)) (key : List ℕ) → has_text seen key ≡ false → IsNew seen key
new_meant [] key h = tt
new_meant (old ∷ seen) key h =
    let no = (or_parts (bytes_eq old key) (has_text seen key) h).0 in
    (λ e. let yes = (bytes_eq-Decides old key).1 e in let never : true ≡ false = sym yes ∙ no in cc, new_meant seen key ((or_parts (bytes_eq old key) (has_text seen key) h).1))

-- those that are unlike the keys before, and unlike one more
one_more : (seen : List (List ℕ)) (key : List ℕ) (keys : List (List ℕ)) → Each (IsNew seen) keys → Each (λ other. key ≢ other) keys → Each (IsNew (seen ++ key ∷ [])) keys
one_more seen key [] h k = tt
one_more seen key (next ∷ keys) h k = (each_append (λ old. old ≢ next) seen (key ∷ []) h.0 (k.0, tt), one_more seen key keys h.1 k.1)

one_less : (seen : List (List ℕ)) (key : List ℕ) (keys : List (List ℕ)) → Each (IsNew (seen ++ key ∷ [])) keys → Each (IsNew seen) keys × Each (λ other. key ≢ other) keys
one_less seen key [] h = (tt, tt)
one_less seen key (next ∷ keys) h =
    let more = one_less seen key keys h.1 in
    ((each_left (λ old. old ≢ next) seen (key ∷ []) h.0, more.0), ((each_right (λ old. old ≢ next) seen (key ∷ []) h.0).0, more.1))

differ_from : (seen keys : List (List ℕ)) → Each (IsNew seen) keys → Differ keys → are_new seen keys ≡ true
differ_from seen [] h d = refl
differ_from seen (key ∷ keys) h d =
    and_from (not (has_text seen key)) (are_new (seen ++ key ∷ []) keys) (not_from_false (has_text seen key) (new_read seen key h.0)) (differ_from (seen ++ key ∷ []) keys (one_more seen key keys h.1 d.0) d.1)

differ_to : (seen keys : List (List ℕ)) → are_new seen keys ≡ true → Each (IsNew seen) keys × Differ keys
differ_to seen [] h = (tt, tt)
differ_to seen (key ∷ keys) h =
    let new = new_meant seen key (not-true (has_text seen key) ((and_parts (not (has_text seen key)) (are_new (seen ++ key ∷ []) keys) h).0)) in
    let more = differ_to (seen ++ key ∷ []) keys ((and_parts (not (has_text seen key)) (are_new (seen ++ key ∷ []) keys) h).1) in
    let less = one_less seen key keys more.0 in
    ((new, less.0), (less.1, more.1))

all_new : (keys : List (List ℕ)) → Each (IsNew []) keys
all_new [] = tt
all_new (key ∷ keys) = (tt, all_new keys)

pub differ_read : (keys : List (List ℕ)) → Differ keys → are_new [] keys ≡ true
differ_read keys d = differ_from [] keys (all_new keys) d

pub differ_meant : (keys : List (List ℕ)) → are_new [] keys ≡ true → Differ keys
differ_meant keys h = (differ_to [] keys h).1
