use Rattle.std.proofs.Common.{◌≡◌, sym, subst, ap, ◌∙◌}
use Rattle.std.specs.List.Sorted.{IsNonDecreasing}
use Rattle.std.proofs.lemmas.Result.{IfOk-weaker}
use Rattle.std.proofs.lemmas.List.Sorted.{IsNonDecreasingBy-from_sort}
use Rattle.rb_orch.specs.Picking.{standing_at}
use Rattle.rb_orch.proofs.Among.{standing_alike}
use Rattle.rb_orch.proofs.picking.keep.Goals as goal

pub standing_at-requires : goal.standing_at-requires
standing_at-requires c =
    subst (λ xs. IsNonDecreasing xs) (sym c.as_slice.ensures.value)
    (IsNonDecreasingBy-from_sort (λ x. x) _ c.sort_unstable.ensures.sorted)

pub returns : goal.returns
returns c =
    IfOk-weaker c.standing_at.result
    (λ kept. kept.items ≡ standing_at c.as_slice.result.now 0 c.args.nodes.items)
    (λ kept. kept.items ≡ standing_at c.args.taken.items 0 c.args.nodes.items)
    (λ kept h. h ∙ ap (λ p. standing_at p 0 c.args.nodes.items) c.as_slice.ensures.value
    ∙ standing_alike _ _ c.sort_unstable.ensures.permutation 0 c.args.nodes.items)
    c.standing_at.ensures
