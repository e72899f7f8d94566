-- Texts that are joined by a comma, and references by their sign.
use Rattle.std.proofs.Common.{◌≡◌, ◌∙◌, ℕ, List, [], ◌∷◌, ◌++◌, codes, ap, sym, refl, append-nil, append_assoc}
use Rattle.rb_causes.specs.Signs.{comma}
use Rattle.rb_causes.specs.Texts as texts
use Rattle.rb_api.specs.Joining.{behind_each, joined}
use Rattle.rb_api.specs.Refusals.{path_text}

one_more : (between x y : List ℕ) (ys : List (List ℕ))
    → joined between (x ∷ y ∷ ys) ≡ x ++ between ++ joined between (y ∷ ys)
one_more between x y ys =
    ap (λ t. x ++ t) (append_assoc between y (behind_each between ys))
    ∙ sym (append_assoc x between (y ++ behind_each between ys))

pub tags_joined : (tags : List (List ℕ)) → joined (codes ",") tags ≡ texts.joined comma tags
tags_joined [] = refl
tags_joined (x ∷ []) = append-nil x
tags_joined (x ∷ y ∷ ys) = ap (λ t. x ++ comma ∷ t) (tags_joined (y ∷ ys))

pub path_joined : (path : List (List ℕ)) → joined (codes " > ") path ≡ path_text path
path_joined [] = refl
path_joined (x ∷ []) = append-nil x
path_joined (x ∷ y ∷ ys) =
    one_more (codes " > ") x y ys ∙ ap (λ t. x ++ codes " > " ++ t) (path_joined (y ∷ ys))
