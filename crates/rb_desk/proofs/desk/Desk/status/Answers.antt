use Rattle.std.proofs.Common.{◌∙◌, List, reverse, ap}
use Rattle.rb_causes.specs.declared.row.Row.{Row}
use Rattle.rb_log.specs.LogState.{log_state}
use Rattle.rb_tables.specs.Statuses.{status_in}
use Rattle.rb_desk.proofs.desk.Desk.status.Goals as goal

pub returns : goal.returns
returns g c =
    let past : List Row = reverse c.self.inside.ledger.log in
    c.status.ensures past c.self.invariant.1
    ∙ ap (λ d. status_in (log_state (reverse d.log)) c.args.execution) c.self.view_is
