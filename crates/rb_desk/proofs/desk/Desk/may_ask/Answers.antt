use Rattle.std.proofs.Common.{◌∙◌, List, reverse, subst, sym}
use Rattle.rb_causes.specs.declared.row.Row.{Row}
use Rattle.rb_log.specs.LogState.{log_state}
use Rattle.rb_desk.specs.Settling.{MayAskOn}
use Rattle.rb_desk.proofs.Askable.{may, only}
use Rattle.rb_desk.proofs.desk.Desk.may_ask.Goals as goal

pub returns-clause-may : goal.returns-clause-may
returns-clause-may g c h =
    let past : List Row = reverse c.self.inside.ledger.log in
    subst (λ d. MayAskOn d.log c.args.call.now) c.self.view_is
    (may (log_state past) c.args.call.now (sym (c.may_ask.ensures past c.self.invariant.1) ∙ h))

pub returns-clause-only : goal.returns-clause-only
returns-clause-only g c h =
    let past : List Row = reverse c.self.inside.ledger.log in
    c.may_ask.ensures past c.self.invariant.1
    ∙ only (log_state past) c.args.call.now
    (subst (λ d. MayAskOn d.log c.args.call.now) (sym c.self.view_is) h)
