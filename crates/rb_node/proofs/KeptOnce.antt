-- Texts that are kept once.
use Rattle.std.proofs.Common.{◌≡◌, ℕ, Bool, true, false, not, cond, ◌||◌, ◌&&◌, bytes_eq, List, [], ◌∷◌, ◌++◌, refl, ap, sym, ◌∙◌, append-nil}
use Rattle.std.specs.List.{filter}
use Rattle.std.proofs.lemmas.List.Elements.{filter-append}
use Rattle.std.proofs.lemmas.Map.Views.{any-filter_same}
use Rattle.std.proofs.lemmas.Slice.Eq.{bytes_eq-Decides}
use Rattle.rb_causes.specs.Texts.{has_text}
use Rattle.rb_node.specs.Tags.{once}

-- another text than this
abbrev pub differs : List ℕ → List ℕ → Bool
differs t other = not (bytes_eq t other)

-- what is left of a text behind the texts that differ from another
pub has_filtered : (x t : List ℕ) (ys : List (List ℕ)) → has_text (filter (differs x) ys) t ≡ (differs x t && has_text ys t)
has_filtered x t ys = any-filter_same (λ y. bytes_eq y t) (differs x) (differs x t) (λ y e. ap (differs x) ((bytes_eq-Decides y t).0 e)) ys

one_kept : (e : Bool) (x t : List ℕ) → bytes_eq x t ≡ e → filter (differs x) (t ∷ []) ≡ cond e [] (t ∷ [])
one_kept true x t h = rw h refl
one_kept false x t h = rw h refl

step : (e h : Bool) (x t : List ℕ) (ys : List (List ℕ)) → bytes_eq x t ≡ e →
    x ∷ filter (differs x) (cond h ys (ys ++ t ∷ [])) ≡ cond (e || (not e && h)) (x ∷ filter (differs x) ys) (x ∷ filter (differs x) ys ++ t ∷ [])
step true true x t ys is = refl
step false true x t ys is = refl
step true false x t ys is =
    ap (λ more. x ∷ more) (filter-append (differs x) ys (t ∷ []) ∙ ap (λ more. filter (differs x) ys ++ more) (one_kept true x t is) ∙ append-nil (filter (differs x) ys))
step false false x t ys is =
    ap (λ more. x ∷ more) (filter-append (differs x) ys (t ∷ []) ∙ ap (λ more. filter (differs x) ys ++ more) (one_kept false x t is))

-- one text more: it is kept where it does not stand among those kept before
pub once_push : (ts : List (List ℕ)) (t : List ℕ) → once (ts ++ t ∷ []) ≡ cond (has_text (once ts) t) (once ts) (once ts ++ t ∷ [])
once_push [] t = refl
once_push (x ∷ xs) t =
    ap (λ more. x ∷ filter (differs x) more) (once_push xs t)
    ∙ step (bytes_eq x t) (has_text (once xs) t) x t (once xs) refl
    ∙ ap (λ h. cond (bytes_eq x t || h) (once (x ∷ xs)) (once (x ∷ xs) ++ t ∷ [])) (sym (has_filtered x t (once xs)))

-- a text that is among those kept, and one that is not
pub once_seen : (ts kept : List (List ℕ)) (t : List ℕ) (b : Bool) → kept ≡ once ts → b ≡ has_text kept t → b ≡ true → kept ≡ once (ts ++ t ∷ [])
once_seen ts kept t b is made h =
    is ∙ sym (once_push ts t ∙ ap (λ x. cond x (once ts) (once ts ++ t ∷ [])) (ap (λ ks. has_text ks t) (sym is) ∙ sym made ∙ h))

pub once_new : (ts kept more : List (List ℕ)) (t : List ℕ) (b : Bool) → kept ≡ once ts → b ≡ has_text kept t → b ≡ false → more ≡ kept ++ t ∷ [] → more ≡ once (ts ++ t ∷ [])
once_new ts kept more t b is made h push =
    push ∙ ap (λ ks. ks ++ t ∷ []) is
    ∙ sym (once_push ts t ∙ ap (λ x. cond x (once ts) (once ts ++ t ∷ [])) (ap (λ ks. has_text ks t) (sym is) ∙ sym made ∙ h))
