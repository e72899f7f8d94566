use Rattle.std.proofs.Common.{◌∙◌}
use Rattle.rb_route.proofs.Finding.{text_of_bytes, in_route, in_none}
use Rattle.rb_route.proofs.api_router.ApiRouter.asked.Goals as goal

pub returns-in_err-route : goal.returns-in_err-route
returns-in_err-route c =
    c.from_residual.ensures ∙ in_none c.matchit_finds.ensures c.args.path.now
    (text_of_bytes c.args.path.now (λ k. (c.type_inv.path k).fits))
    c.route.result c.route.ensures c.in_err-route.was

pub returns : goal.returns
returns c =
    c.asked_at.ensures ∙ in_route c.matchit_finds.ensures c.args.path.now
    (text_of_bytes c.args.path.now (λ k. (c.type_inv.path k).fits))
    c.in_ok-route.field-0 c.route.result c.route.ensures c.in_ok-route.was
