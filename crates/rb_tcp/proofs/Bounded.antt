-- Each caller who is taken is one of those that were left.
use Rattle.std.proofs.Common.{◌-◌, arith, refl, subst, zero, suc, true, false, [], ◌∷◌}
use Rattle.std.specs.Prelude.{Ok, Err}
use Rattle.rb_tcp.specs.Bounded.{AnswersAll, CallersAreBounded}
use Rattle.rb_tcp.specs.declared.callers_left.CallersLeft.TheVariants.{Only}

pub bounded : CallersAreBounded
bounded most [] h = omega arith
bounded most (Ok false ∷ results) (after, answers, rest) =
    omega (arith, bounded most results (subst (λ l. AnswersAll l results) answers.left rest))
bounded most (Err fault ∷ results) (after, answers, rest) =
    omega (arith, bounded most results (subst (λ l. AnswersAll l results) answers.left rest))
bounded zero (Ok true ∷ results) (after, answers, rest) =
    let same = answers.none.1 refl in let never : ⊥ = cc in absurd never
bounded (suc n) (Ok true ∷ results) (after, answers, rest) =
    let kept : AnswersAll (Only (suc n - 1)) results =
    subst (λ l. AnswersAll l results) answers.left rest in
    omega (arith, bounded (suc n - 1) results kept)
