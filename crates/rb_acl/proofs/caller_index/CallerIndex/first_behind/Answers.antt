use Rattle.std.proofs.Common.{sym}
use Rattle.std.proofs.lemmas.Result.{IfOk-weaker}
use Rattle.rb_acl.specs.Seeking.{place_decides}
use Rattle.rb_acl.proofs.Deciders.{keyed_in_turn}
use Rattle.rb_acl.proofs.caller_index.CallerIndex.first_behind.Goals as goal

pub returns-clause-found : goal.returns-clause-found
returns-clause-found c =
    let sought = c.args.sought.now in
    IfOk-weaker c.earliest_under-2.result _ _
    (λ place is.
    keyed_in_turn (place_decides sought.effect sought.policies.now sought.resource.now
    sought.action.now) sought.resource.now c.args.self.now c.self.inside.rules
    c.as_slice-props.result.now c.prop_text.result.now c.prop_text-2.result.now
    c.as_slice.result.now c.as_slice-2.result.now _ _ c.args.found c.in_ok-found.found place
    (sym c.self.view_is) c.as_slice-props.ensures c.prop_text.ensures c.prop_text-2.ensures
    c.as_slice.ensures c.as_slice-2.ensures c.under-nodenames.ensures c.under-names.ensures
    c.in_ok-found.ensures.found is)
    c.earliest_under-2.ensures.found
