use Rattle.std.proofs.Common.{refl}
use Rattle.rb_reply.proofs.Printing.{printed_as}
use Rattle.rb_api.proofs.Printed.{shown_plain}
use Rattle.rb_api.proofs.replying.shown_reply.Goals as goal

pub returns : goal.returns
returns c =
    printed_as c.printed.result _ _ _ _ refl c.in_ok-shown_value.ensures
    (shown_plain c.args.shown.now) c.printed.ensures
