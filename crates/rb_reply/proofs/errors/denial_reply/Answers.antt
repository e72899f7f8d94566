use Rattle.std.proofs.Common.{refl}
use Rattle.rb_reply.proofs.Printing.{printed_as}
use Rattle.rb_reply.proofs.errors.denial_reply.Goals as goal

pub returns : goal.returns
returns c =
    printed_as c.printed.result _ _ _ _ c.status.ensures c.in_ok-denial_value.ensures refl
    c.printed.ensures
