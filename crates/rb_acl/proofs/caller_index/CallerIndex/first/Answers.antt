use Rattle.std.proofs.Common.{sym}
use Rattle.std.proofs.lemmas.Result.{IfOk-weaker}
use Rattle.rb_acl.specs.Seeking.{place_decides}
use Rattle.rb_acl.proofs.Deciders.{told_in_turn}
use Rattle.rb_acl.proofs.caller_index.CallerIndex.first.Goals as goal

pub returns-clause-found : goal.returns-clause-found
returns-clause-found c = IfOk-weaker c.first_behind.result _ _
    (λ place is.
    told_in_turn (place_decides c.args.effect c.args.policies.now c.args.resource.now
    c.args.action.now) c.args.resource.now c.args.self.now c.self.inside.rules
    c.as_slice.result.now c.in_ok-found.found place (sym c.self.view_is) c.as_slice.ensures
    c.in_ok-found.ensures.found is)
    c.first_behind.ensures.found
