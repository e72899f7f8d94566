use Rattle.rb_log.specs.LogState.{log_state}
use Rattle.rb_log.specs.Looks.{execution_state}
use Rattle.rb_looks.proofs.Shows.{read_shown, unread_told}
use Rattle.rb_looks.proofs.looking.state_shown.Goals as goal

pub returns-in_err-execution : goal.returns-in_err-execution
returns-in_err-execution c past tabled =
    unread_told (log_state past) c.args.caller.now c.args.number execution_state
    c.from_residual.result c.in_err-execution.field-0.0 c.from_residual.ensures.1
    (c.in_err-execution.ensures.err past tabled)

pub execution_state-requires : goal.execution_state-requires
execution_state-requires c =
    let read = c.in_ok-execution.ensures.ok c.requires.0 c.requires.1 in
    (read.execution, read.is, read.tiers)

pub returns : goal.returns
returns c past tabled =
    let read = c.in_ok-execution.ensures.ok past tabled in
    read_shown (log_state past) c.args.caller.now c.args.number execution_state read.execution
    c.in_ok-execution_state.field-0 read.may
    (c.in_ok-execution_state.ensures read.execution read.is read.tiers)
