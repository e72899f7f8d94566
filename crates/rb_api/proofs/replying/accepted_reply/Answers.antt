use Rattle.std.proofs.Common.{refl}
use Rattle.rb_reply.proofs.Printing.{printed_as}
use Rattle.rb_api.proofs.Printed.{view_plain}
use Rattle.rb_api.proofs.replying.accepted_reply.Goals as goal

pub returns : goal.returns
returns c =
    printed_as c.printed.result _ _ _ _ refl c.in_ok-value.ensures
    (view_plain c.args.view.now) c.printed.ensures
