use Rattle.std.proofs.Common.{◌∙◌, ◌++◌, ◌∷◌, [], ap, sym, add-one}
use Rattle.rb_log.specs.Sums.{numbers_below}
use Rattle.rb_changes.proofs.opening.numbers_below.Goals as goal

pub loop-number-preserved : goal.loop-number-preserved
loop-number-preserved c =
    c.in_ok-push.ensures.items
    ∙ ap (λ ns. ns ++ c.loop-number.number ∷ []) c.loop-number.invariant
    ∙ sym (ap numbers_below (add-one c.loop-number.number))
