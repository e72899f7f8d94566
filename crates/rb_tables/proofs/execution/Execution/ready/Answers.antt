use Rattle.std.proofs.Common.{◌+◌, refl}
use Rattle.rb_marks.specs.FlowState.{FlowState}
use Rattle.rb_tables.proofs.Going.{kept_by, same_going}
use Rattle.rb_tables.proofs.execution.Execution.ready.Goals as goal

pub returns-in-Going-clause-same : goal.returns-in-Going-clause-same
returns-in-Going-clause-same c l entry =
    let flow : FlowState = c.in-Going.going.flow in
    same_going c.args.self.now c.in-Going.going c.ready.new.self l entry c.in-Going.is
    (kept_by c.ready.result flow c.ready.new.self (record flow { room = flow.room + 1 })
    c.ready.ensures.ok c.ready.ensures.err refl refl)
