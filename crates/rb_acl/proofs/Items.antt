-- The item that a loop is at.
use Rattle.std.proofs.Common.{◌≡◌, Bool, true, ℕ, ◌+◌, ◌<◌, List, ◌∷◌, length, get_or, drop, ap, sym, subst, ◌∙◌}
use Rattle.std.specs.List.{list_all}
use Rattle.std.proofs.lemmas.List.{at_drop_more}
use Rattle.std.proofs.lemmas.Bool.{and_parts}

-- it stands before what is left
pub drop_item : {X Y : Type 0} (F : List X → Y) (xs items : List X) (i : ℕ) (x : X) → items ≡ xs
    → i < length items → x ≡ get_or items i x → F (drop i xs) ≡ F (x ∷ drop (i + 1) xs)
drop_item F xs items i x same below is =
    subst (λ zs. F (drop i zs) ≡ F (x ∷ drop (i + 1) zs)) same
    (at_drop_more F items i x below ∙ ap (λ y. F (y ∷ drop (i + 1) items)) (sym is))

-- what holds of all that is left holds of all behind it
pub all_behind : {X : Type 0} (p : X → Bool) (xs items : List X) (i : ℕ) (x : X) → items ≡ xs
    → i < length items → x ≡ get_or items i x → list_all p (drop i xs) ≡ true
    → list_all p (drop (i + 1) xs) ≡ true
all_behind p xs items i x same below is h =
    (and_parts (p x) (list_all p (drop (i + 1) xs)) (sym (drop_item
    (list_all p) xs items i x same below is) ∙ h)).1
