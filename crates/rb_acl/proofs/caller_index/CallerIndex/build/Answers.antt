use Rattle.std.proofs.Common.{sym, subst, IsPermutation}
use Rattle.rb_acl.proofs.Gathers.{built}
use Rattle.rb_acl.proofs.caller_index.CallerIndex.build.Goals as goal

pub returns : goal.returns
returns c =
    built c.args.policies.now c.args.caller.now c.args.context.now c.args.type_name.now
    c.in_ok-nodenames.field-0 c.of.result c.of-2.result c.in_ok-nodenames.ensures
    (subst (IsPermutation c.in_ok-nodenames.field-0.nodenames) (sym c.of.ensures)
    (subst (λ ks. IsPermutation ks c.sort_by_text.new.keyed.items)
    c.into_vec-nodenames.ensures c.in_ok-sort_by_text.ensures.permutation))
    (subst (IsPermutation c.in_ok-nodenames.field-0.names) (sym c.of-2.ensures)
    (subst (λ ks. IsPermutation ks c.sort_by_text-2.new.keyed.items)
    c.into_vec-names.ensures c.in_ok-sort_by_text-2.ensures.permutation))
