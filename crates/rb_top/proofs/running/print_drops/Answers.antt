use Rattle.std.proofs.Common.{sym, ◌∙◌}
use Rattle.rb_top.specs.Drill.{drops}
use Rattle.rb_top.proofs.Judging.{drop_passed, drop_played, drop_cut, drops_over}
use Rattle.rb_top.proofs.PlayedLemmas.{plays_handed, played_nothing}
use Rattle.rb_top.proofs.running.print_drops.Goals as goal

pub loop-decided-init : goal.loop-decided-init
loop-decided-init g c spawner = played_nothing (drops c.args.number c.args.decisions.now) spawner _

pub returns-in_err-print_verdict : goal.returns-in_err-print_verdict
returns-in_err-print_verdict g c spawner =
    plays_handed c.from_residual.result c.in_err-print_verdict.field-0.0 c.from_residual.ensures.1 _ _ _ _ _ _
    (drop_cut c.args.number c.args.decisions.now c.loop-decided.decided-index c.decided-item.result c.loop-decided-test.true c.decided-item.is spawner _ _ _
    (sym c.is_allowed.ensures ∙ c.if-is_allowed.false) (c.loop-decided.invariant spawner) c.in_err-print_verdict.ensures)

pub loop-decided-preserved-then-is_allowed : goal.loop-decided-preserved-then-is_allowed
loop-decided-preserved-then-is_allowed g c spawner =
    drop_passed c.args.number c.args.decisions.now c.loop-decided.decided-index c.decided-item.result c.loop-decided-test.true c.decided-item.is spawner _ _
    (sym c.is_allowed.ensures ∙ c.if-is_allowed.true) (c.loop-decided.invariant spawner)

pub loop-decided-preserved : goal.loop-decided-preserved
loop-decided-preserved g c spawner =
    drop_played c.args.number c.args.decisions.now c.loop-decided.decided-index c.decided-item.result c.loop-decided-test.true c.decided-item.is spawner _ _ _
    (sym c.is_allowed.ensures ∙ c.if-is_allowed.false) (c.loop-decided.invariant spawner) c.in_ok-print_verdict.ensures

pub returns : goal.returns
returns g c spawner =
    drops_over c.args.number c.args.decisions.now c.loop-decided.decided-index spawner _ _ c.loop-decided-test.false (c.loop-decided.invariant spawner)
