-- Those that are permitted, one after another.
use Rattle.std.proofs.Common.{◌≡◌, ◌∙◌, Bool, true, false, List, [], ◌∷◌, ◌++◌, ◌⊎◌, inl, inr, map, filter, cond, ap, sym, refl, append_assoc}
use Rattle.std.proofs.lemmas.List.{append-nil}
use Rattle.rb_acl.specs.Deciding.{is_allowed}
use Rattle.rb_acl.specs.declared.policy.Decision.{Decision}
use Rattle.rb_looks.specs.Looking.{permitted}

-- those whose own decision allows
pub permitted_filters : {A : Type 0} (decide : A → Decision) (xs : List A)
    → permitted (map decide xs) xs ≡ filter (λ x. is_allowed (decide x)) xs
permitted_filters decide [] = refl
permitted_filters decide (x ∷ xs) =
    ap (λ ys. cond (is_allowed (decide x)) (x ∷ ys) ys) (permitted_filters decide xs)

first_apart : {A : Type 0} (b : Bool) (x : A) (xs : List A)
    → cond b (x ∷ xs) xs ≡ cond b (x ∷ []) [] ++ xs
first_apart true x xs = refl
first_apart false x xs = refl

-- so far there was what is made of the first of them, and it is one more now
pub next_permitted : {A B : Type 0} (make : List A → List B)
    → ((xs ys : List A) → make (xs ++ ys) ≡ make xs ++ make ys)
    → (whole so_far now : List B) (decision : Decision) (x : A) (ds ds' : List Decision)
    (xs xs' : List A) → whole ≡ so_far ++ make (permitted ds xs)
    → ds ≡ decision ∷ ds' → xs ≡ x ∷ xs'
    → now ≡ so_far ++ make (permitted (decision ∷ []) (x ∷ []))
    → whole ≡ now ++ make (permitted ds' xs')
next_permitted make joins whole so_far now decision x ds ds' xs xs' is d e more =
    is
    ∙ ap (λ l. so_far ++ make (permitted l xs)) d
    ∙ ap (λ l. so_far ++ make (permitted (decision ∷ ds') l)) e
    ∙ ap (λ l. so_far ++ make l) (first_apart (is_allowed decision) x (permitted ds' xs'))
    ∙ ap (λ l. so_far ++ l) (joins (permitted (decision ∷ []) (x ∷ [])) (permitted ds' xs'))
    ∙ sym (append_assoc so_far (make (permitted (decision ∷ []) (x ∷ [])))
    (make (permitted ds' xs')))
    ∙ ap (λ l. l ++ make (permitted ds' xs')) (sym more)

none_of : {A : Type 0} (ds : List Decision) (xs : List A) → (ds ≡ []) ⊎ (xs ≡ [])
    → permitted ds xs ≡ []
none_of ds xs (inl e) = ap (λ l. permitted l xs) e
none_of [] xs (inr e) = refl
none_of (d ∷ ds) xs (inr e) = ap (permitted (d ∷ ds)) e

-- where none is left it is all
pub none_left : {A B : Type 0} (make : List A → List B) (whole all : List B) (ds : List Decision)
    (xs : List A) → make [] ≡ [] → whole ≡ all ++ make (permitted ds xs)
    → (ds ≡ []) ⊎ (xs ≡ []) → all ≡ whole
none_left make whole all ds xs nothing is none =
    sym (is ∙ ap (λ l. all ++ make l) (none_of ds xs none) ∙ ap (λ l. all ++ l) nothing
    ∙ append-nil all)
