-- Short ids are the same exactly where what stands of them is.
use Rattle.std.proofs.Common.{◌≡◌, ◌∙◌, ℕ, Bool, true, false, List, length, take, bytes_eq, ap, sym, refl}
use Rattle.std.specs.Bool.{Decides}
use Rattle.std.proofs.lemmas.List.{take_at}
use Rattle.std.proofs.lemmas.Slice.Eq.{bytes_eq-Decides}
use Rattle.rb_tables.specs.JobIds.{near_of}

same_test : {P Q : Type 0} (b c : Bool) → Decides b P → Decides c Q → (P → Q) → (Q → P) → b ≡ c
same_test true c d e f g = sym (e.1 (f (d.0 refl)))
same_test false true d e f g = d.1 (g (e.0 refl))
same_test false false d e f g = refl

front_is : (t : List ℕ) → take (length t) (near_of t) ≡ t
front_is t = take_at t _ (length t) refl

pub near_same : (a b x y : List ℕ) → length a ≡ length b → x ≡ near_of a → y ≡ near_of b
    → bytes_eq x y ≡ bytes_eq a b
near_same a b x y long is at =
    same_test (bytes_eq x y) (bytes_eq a b) (bytes_eq-Decides x y) (bytes_eq-Decides a b)
    (λ same. sym (front_is a)
    ∙ ap (take (length a)) (sym is ∙ same ∙ at)
    ∙ ap (λ n. take n (near_of b)) long
    ∙ front_is b)
    (λ same. is ∙ ap near_of same ∙ sym at)
