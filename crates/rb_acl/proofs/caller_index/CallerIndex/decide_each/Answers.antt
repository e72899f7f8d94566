use Rattle.std.proofs.Common.{◌≡◌, ◌∙◌, IfOk, ap, subst}
use Rattle.rb_acl.specs.Columns.{decided_of_each}
use Rattle.rb_acl.proofs.Listing.{told_each}
use Rattle.rb_acl.proofs.caller_index.CallerIndex.decide_each.Goals as goal

pub returns : goal.returns
returns c = λ caller here type_name is all.
    subst (λ told. IfOk c.decided_of_each.result (λ decisions. decisions.items ≡ told))
    (ap (λ d. decided_of_each d c.as_slice-2.result.now)
    (c.as_slice.ensures.value ∙ c.in_ok-denied.ensures)
    ∙ ap (decided_of_each _) (c.as_slice-2.ensures.value ∙ c.in_ok-allowed.ensures)
    ∙ told_each c.args.policies.now caller here type_name c.args.action.now c.args.self.now is
    c.args.resources.now all) c.decided_of_each.ensures
