use Rattle.std.proofs.Common.{sym, ◌∙◌}
use Rattle.rb_top.proofs.Judging.{authorize_refused, authorize_refused_cut, authorize_played, authorize_cut, authorize_drops_cut}
use Rattle.rb_top.proofs.PlayedLemmas.{plays_handed, plays_map}
use Rattle.rb_top.proofs.running.authorize.Goals as goal

pub returns-then-is_empty : goal.returns-then-is_empty
returns-then-is_empty g c user =
    let none = sym c.is_empty.ensures ∙ c.if-is_empty.true in
    plays_map _ (λ done played. authorize_refused c.args.number user c.args.job.now c.args.decisions.now c.args.allowed.now none played)
    (λ trouble broke. authorize_refused_cut c.args.number user c.args.job.now c.args.decisions.now c.args.allowed.now none broke)
    (c.refuse.ensures _)

pub returns-in_err-print_drops : goal.returns-in_err-print_drops
returns-in_err-print_drops g c user =
    plays_handed c.from_residual.result c.in_err-print_drops.field-0.0 c.from_residual.ensures.1 _ _ _ _ _ _
    (authorize_drops_cut c.args.number user c.args.job.now c.args.decisions.now c.args.allowed.now (sym c.is_empty.ensures ∙ c.if-is_empty.false) (c.in_err-print_drops.ensures _))

pub returns : goal.returns
returns g c user =
    let some = sym c.is_empty.ensures ∙ c.if-is_empty.false in
    plays_map _
    (λ done played. authorize_played c.args.number user c.args.job.now c.args.decisions.now c.args.allowed.now some (c.in_ok-print_drops.ensures _) played)
    (λ trouble broke. authorize_cut c.args.number user c.args.job.now c.args.decisions.now c.args.allowed.now some (c.in_ok-print_drops.ensures _) broke)
    (c.run_job.ensures user)
