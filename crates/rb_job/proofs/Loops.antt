-- One item more of a list that a loop looks through.
use Rattle.std.proofs.Common.{◌≡◌, Bool, true, false, ◌||◌, List, ◌∷◌, ap, sym, ◌∙◌}
use Rattle.std.specs.List.{list_any}

pub any_here : {A : Type 0} (f : A → Bool) (x : A) (left rest all : List A) → left ≡ x ∷ rest → f x ≡ true → list_any f left ≡ list_any f all → true ≡ list_any f all
any_here f x left rest all is h same =
    sym (ap (λ b. b || list_any f rest) h) ∙ sym (ap (list_any f) is) ∙ same

pub any_on : {A : Type 0} (f : A → Bool) (x : A) (left rest all : List A) → left ≡ x ∷ rest → f x ≡ false → list_any f left ≡ list_any f all → list_any f rest ≡ list_any f all
any_on f x left rest all is h same =
    sym (ap (λ b. b || list_any f rest) h) ∙ sym (ap (list_any f) is) ∙ same
