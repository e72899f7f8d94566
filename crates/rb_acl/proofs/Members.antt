-- Membership in lists of clauses, what `find` tells of the members, and lists in order of places.
use Rattle.std.proofs.Common.{◌≡◌, ◌⊎◌, inl, inr, Bool, true, false, cond, Option, Some, None, List, [], ◌∷◌, ◌++◌, refl, sym, subst, ◌∙◌, arith}
use Rattle.std.specs.List.{find}
use Rattle.rb_acl.specs.Deciding.{Placed}
use Rattle.rb_acl.specs.Laws.{IsEarlier}
use Rattle.rb_acl.specs.declared.policy.Clause.{Clause}

abbrev pub Member : Placed → List Placed → Type 0
Member c [] = ⊥
Member c (x ∷ xs) = (c ≡ x) ⊎ Member c xs

pub member_left : (c : Placed) (xs ys : List Placed) → Member c xs → Member c (xs ++ ys)
member_left c [] ys m = absurd m
member_left c (x ∷ xs) ys (inl e) = inl e
member_left c (x ∷ xs) ys (inr m) = inr (member_left c xs ys m)

pub member_right : (c : Placed) (xs ys : List Placed) → Member c ys → Member c (xs ++ ys)
member_right c [] ys m = m
member_right c (x ∷ xs) ys m = inr (member_right c xs ys m)

pub member_cases : (c : Placed) (xs ys : List Placed) → Member c (xs ++ ys) → Member c xs
    ⊎ Member c ys
member_cases c [] ys m = inr m
member_cases c (x ∷ xs) ys (inl e) = inl (inl e)
member_cases c (x ∷ xs) ys (inr m) =
    elim (member_cases c xs ys m) [ inl l ↦ inl (inr l) | inr r ↦ inr r ]

found_step : (b : Bool) (x c : Placed) (more : Option Placed) → cond b (Some x) more ≡ Some c
    → ((b ≡ true) × (x ≡ c)) ⊎ ((b ≡ false) × (more ≡ Some c))
found_step true x c more e = inl (refl, cc)
found_step false x c more e = inr (refl, e)

none_step : (b : Bool) (x : Placed) (more : Option Placed) → cond b (Some x) more ≡ None
    → (b ≡ false) × (more ≡ None)
none_step true x more e = let never : ⊥ = cc in absurd never
none_step false x more e = (refl, e)

-- what is found is a member that passes
pub found_in : (p : Placed → Bool) (cs : List Placed) (c : Placed) → find p cs ≡ Some c
    → Member c cs × (p c ≡ true)
found_in p [] c e = let never : ⊥ = cc in absurd never
found_in p (x ∷ xs) c e =
    elim (found_step (p x) x c (find p xs) e) [
      | inl h ↦ (inl (sym h.1), subst (λ z. p z ≡ true) h.1 h.0)
      | inr h ↦ let r = found_in p xs c h.1 in (inr r.0, r.1)
    ]

pub none_in : (p : Placed → Bool) (cs : List Placed) (c : Placed) → find p cs ≡ None → Member c cs
    → p c ≡ false
none_in p [] c e m = absurd m
none_in p (x ∷ xs) c e (inl same) =
    subst (λ z. p z ≡ false) (sym same) (none_step (p x) x (find p xs) e).0
none_in p (x ∷ xs) c e (inr m) = none_in p xs c (none_step (p x) x (find p xs) e).1 m

pub none_from : (p : Placed → Bool) (cs : List Placed) → ((c : Placed) → Member c cs → p c ≡ false)
    → find p cs ≡ None
none_from p [] h = refl
none_from p (x ∷ xs) h = rw (h x (inl refl)) (none_from p xs (λ c m. h c (inr m)))

-- no clause stands before one of an earlier place
abbrev pub IsSorted : List Placed → Type 0
IsSorted [] = Unit {0}
IsSorted (x ∷ xs) = ((b : Placed) → Member b xs → IsEarlier b.place x.place → ⊥) × IsSorted xs

pub sorted-append : (xs ys : List Placed) → IsSorted xs → IsSorted ys
    → ((a b : Placed) → Member a xs → Member b ys → IsEarlier b.place a.place → ⊥)
    → IsSorted (xs ++ ys)
sorted-append [] ys left right cross = right
sorted-append (x ∷ xs) ys left right cross = (
  λ b m earlier. elim (member_cases b xs ys m)
      [ inl l ↦ left.0 b l earlier | inr r ↦ cross x b (inl refl) r earlier ],
  sorted-append xs ys left.1 right (λ a b m n. cross a b (inr m) n),
)

not_before_itself : (a : Clause) → IsEarlier a a → ⊥
not_before_itself a (inl h) = omega arith
not_before_itself a (inr (inl h)) = omega arith
not_before_itself a (inr (inr h)) = omega arith

-- in a sorted list none before what is found passes
pub first_in : (p : Placed → Bool) (cs : List Placed) (c b : Placed) → IsSorted cs → find p cs
    ≡ Some c → Member b cs → IsEarlier b.place c.place → p b ≡ false
first_in p [] c b s e m earlier = absurd m
first_in p (x ∷ xs) c b s e (inl same) earlier =
    elim (found_step (p x) x c (find p xs) e) [
      | inl h ↦ absurd
          (not_before_itself c.place (subst (λ z. IsEarlier z.place c.place) (same ∙ h.1) earlier))
      | inr h ↦ subst (λ z. p z ≡ false) (sym same) h.0
    ]
first_in p (x ∷ xs) c b s e (inr m) earlier =
    elim (found_step (p x) x c (find p xs) e) [
      | inl h ↦ absurd (s.0 b m (subst (λ z. IsEarlier b.place z.place) (sym h.1) earlier))
      | inr h ↦ first_in p xs c b s.1 h.1 m earlier
    ]
