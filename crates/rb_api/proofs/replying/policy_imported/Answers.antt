use Rattle.std.proofs.Common.{refl}
use Rattle.rb_reply.proofs.Printing.{printed_as}
use Rattle.rb_api.proofs.replying.policy_imported.Goals as goal

pub returns : goal.returns
returns c =
    printed_as c.printed.result _ _ _ _ refl c.in_ok-policy_value.ensures
    refl c.printed.ensures
