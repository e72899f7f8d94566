use Rattle.std.proofs.Common.{◌∙◌, ap, refl}
use Rattle.rb_api.specs.Views.{abort_data}
use Rattle.rb_reply.proofs.Printing.{printed_as}
use Rattle.rb_api.proofs.replying.aborted_reply.Goals as goal

pub returns : goal.returns
returns c =
    printed_as c.printed.result _ _ _ _ refl
    (c.in_ok-abort_value.ensures ∙ ap (λ n. abort_data n c.args.status) c.number_in-id.ensures)
    refl c.printed.ensures
