use Rattle.std.proofs.Common.{ap}
use Rattle.rb_log.specs.LogState.{log_state}
use Rattle.rb_log.specs.Runs.{view_of}
use Rattle.rb_log.specs.declared.shown.Shown.TheVariants as shown
use Rattle.rb_looks.proofs.Shows.{read_shown, unread_told}
use Rattle.rb_looks.proofs.looking.execution_shown.Goals as goal

pub returns-in_err-execution : goal.returns-in_err-execution
returns-in_err-execution c past tabled =
    unread_told (log_state past) c.args.caller.now c.args.number (λ e. shown.Execution (view_of e))
    c.from_residual.result c.in_err-execution.field-0.0 c.from_residual.ensures.1
    (c.in_err-execution.ensures.err past tabled)

pub returns : goal.returns
returns c past tabled =
    let read = c.in_ok-execution.ensures.ok past tabled in
    read_shown (log_state past) c.args.caller.now c.args.number (λ e. shown.Execution (view_of e))
    read.execution (shown.Execution c.in_ok-view_of.field-0) read.may
    (ap shown.Execution (c.in_ok-view_of.ensures read.execution read.is))
