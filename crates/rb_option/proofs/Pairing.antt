-- Words two by two.
use Rattle.std.proofs.Common.{◌≡◌, ◌<◌, ℕ, ◌+◌, List, [], ◌∷◌, ◌++◌, length, drop, get_or, Result, Ok, Err, refl, sym, ap, ◌∙◌, append_assoc, arith}
use Rattle.rb_causes.specs.declared.items.Prop.{Prop}
use Rattle.rb_causes.proofs.Lists.{drop_item}
use Rattle.rb_option.specs.Arguments.{pair_onto, paired, pairs_from, pairs_onto, IsPair}
use Rattle.rb_option.specs.declared.option_err.ArgsErr.{ArgsErr}

pub two_items : (ws : List (List ℕ)) (i : ℕ) (x y : List ℕ) → i + 1 < length ws → x ≡ get_or ws i x → y ≡ get_or ws (i + 1) y →
    drop i ws ≡ x ∷ y ∷ drop (i + 2) ws
two_items ws i x y h ex ey =
    drop_item ws i x (omega (arith, h)) ex ∙ ap (λ t. x ∷ t) (drop_item ws (i + 1) y h ey)
    ∙ ap (λ n. x ∷ y ∷ drop n ws) (omega arith)

onto_more : (pairs : List Prop) (p : Prop) (r : Result (List Prop) ArgsErr) → pairs_onto (pairs ++ p ∷ []) r ≡ pairs_onto pairs (pair_onto p.key p.text r)
onto_more pairs p (Ok more) = ap Ok (append_assoc pairs (p ∷ []) more)
onto_more pairs p (Err e) = refl

pub pair_step : (pairs : List Prop) (p : Prop) (ws : List (List ℕ)) (i : ℕ) (x y : List ℕ) (all : Result (List Prop) ArgsErr) → i + 1 < length ws →
    x ≡ get_or ws i x → y ≡ get_or ws (i + 1) y → IsPair x y p → pairs_onto pairs (pairs_from (i + 1) (drop i ws)) ≡ all →
    pairs_onto (pairs ++ p ∷ []) (pairs_from (i + 2 + 1) (drop (i + 2) ws)) ≡ all
pair_step pairs p ws i x y all h ex ey is inv =
    onto_more pairs p (pairs_from (i + 2 + 1) (drop (i + 2) ws))
    ∙ ap (λ n. pairs_onto pairs (pair_onto p.key p.text (pairs_from n (drop (i + 2) ws)))) (omega arith)
    ∙ ap (λ t. pairs_onto pairs (pair_onto p.key t (pairs_from (i + 1 + 2) (drop (i + 2) ws)))) is.1
    ∙ ap (λ o. pairs_onto pairs (paired (i + 1) o y (pairs_from (i + 1 + 2) (drop (i + 2) ws)))) (sym is.0)
    ∙ ap (λ t. pairs_onto pairs (pairs_from (i + 1) t)) (sym (two_items ws i x y h ex ey))
    ∙ inv
