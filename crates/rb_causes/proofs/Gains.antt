-- What is told after several gains, one behind the other.
use Rattle.std.proofs.Common.{◌≡◌, ℕ, ◌+◌, ◌-◌, List, ◌++◌, take, drop, length, Option, Some, None, refl, ap, sym, ◌∙◌, append_assoc}
use Rattle.std.proofs.Math.Seq.{take-add}
use Rattle.std.proofs.lemmas.List.{take_rest}
use Rattle.rb_causes.specs.Outside.{gained}

pub gained-gained : {A : Type 0} (told : Option (List A)) (xs ys : List A) → gained (gained told xs) ys ≡ gained told (xs ++ ys)
gained-gained None xs ys = refl
gained-gained (Some before) xs ys = ap Some (append_assoc before xs ys)

-- n more of what is left behind the first `done`
pub gained_more : {A : Type 0} (old mid new : Option (List A)) (items : List A) (done n : ℕ) →
    mid ≡ gained old (take done items) → new ≡ gained mid (take n (take (length items - done) (drop done items))) → new ≡ gained old (take (done + n) items)
gained_more old mid new items done n before more =
    more ∙ ap (λ rest. gained mid (take n rest)) (take_rest items done) ∙ ap (λ told. gained told (take n (drop done items))) before
    ∙ gained-gained old (take done items) (take n (drop done items)) ∙ ap (gained old) (sym (take-add done n items))
