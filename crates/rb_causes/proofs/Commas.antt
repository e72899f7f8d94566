-- The parts of a text at its commas.
use Rattle.std.proofs.Common.{◌≡◌, refl, ap, ◌∙◌, ℕ, Bool, List, [], ◌∷◌, cond}
use Rattle.std.specs.List.{slice_split, onto_first}
use Rattle.rb_causes.specs.Texts.{pieces}

onto_first_piece : (b : ℕ) (xs : List (List ℕ)) → onto_first b xs ≡ Rattle.rb_causes.specs.Texts.onto_first b xs
onto_first_piece b [] = refl
onto_first_piece b (x ∷ xs) = refl

pub pieces-slice_split : (parts : ℕ → Bool) (text : List ℕ) → slice_split parts text ≡ pieces parts text
pieces-slice_split parts [] = refl
pieces-slice_split parts (b ∷ bs) =
    ap (λ ps. cond (parts b) ([] ∷ ps) (onto_first b ps)) (pieces-slice_split parts bs) ∙ ap (cond (parts b) ([] ∷ pieces parts bs)) (onto_first_piece b (pieces parts bs))
