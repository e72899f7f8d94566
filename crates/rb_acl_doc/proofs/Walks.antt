-- A loop over a list, of which what is left begins with the item at hand.
use Rattle.std.proofs.Common.{◌≡◌, Bool, true, false, ◌||◌, List, [], ◌∷◌, ◌++◌, refl, ap, sym, ◌∙◌, append_assoc}
use Rattle.std.specs.List.{list_any, flat_map}

module _ {A : Type 0} (p : A → Bool) (x : A) (left rest : List A) (split : left ≡ x ∷ rest) where
  pub any_here : (whole : Bool) → p x ≡ true → list_any p left ≡ whole → true ≡ whole
  any_here whole h same =
      sym (ap (λ b. b || list_any p rest) h) ∙ sym (ap (list_any p) split) ∙ same

  pub any_on : (whole : Bool) → p x ≡ false → list_any p left ≡ whole → list_any p rest ≡ whole
  any_on whole h same =
      sym (ap (λ b. b || list_any p rest) h) ∙ sym (ap (list_any p) split) ∙ same

pub flat_map-append : {A B : Type 0} (f : A → List B) (xs ys : List A)
    → flat_map f (xs ++ ys) ≡ flat_map f xs ++ flat_map f ys
flat_map-append f [] ys = refl
flat_map-append f (x ∷ xs) ys =
    ap (λ more. f x ++ more) (flat_map-append f xs ys)
    ∙ sym (append_assoc (f x) (flat_map f xs) (flat_map f ys))
