use Rattle.std.proofs.Common.{◌∙◌, ap, subst, sym}
use Rattle.rb_log.specs.Executions.{executions}
use Rattle.rb_log.specs.LogState.{log_state}
use Rattle.rb_log.specs.Looks.{look_at}
use Rattle.rb_looks.specs.Looking.{ShowsOrAnswers}
use Rattle.rb_looks.proofs.ProjectShows.{executions_are_shown, jobs_are_shown, nodes_are_shown}
use Rattle.rb_looks.proofs.looking.shown.Goals as goal

pub returns-in-Execution : goal.returns-in-Execution
returns-in-Execution c past tabled =
    subst (λ look.
    ShowsOrAnswers (look_at (log_state past) c.args.caller.now look) c.execution_shown.result)
    (sym c.in-Execution.is) (c.execution_shown.ensures past tabled)

pub returns-in-State : goal.returns-in-State
returns-in-State c past tabled =
    subst (λ look.
    ShowsOrAnswers (look_at (log_state past) c.args.caller.now look) c.state_shown.result)
    (sym c.in-State.is) (c.state_shown.ensures past tabled)

pub returns-in-Jobs : goal.returns-in-Jobs
returns-in-Jobs c past tabled =
    subst (λ moved. ShowsOrAnswers moved c.jobs_looked_at.result)
    (jobs_are_shown c.args.tables.now past c.args.caller.now tabled c.in-Jobs.project
    ∙ ap (look_at (log_state past) c.args.caller.now) (sym c.in-Jobs.is))
    (rw c.as_str.ensures at c.jobs_looked_at.ensures)

pub returns-in-Resources : goal.returns-in-Resources
returns-in-Resources c past tabled =
    subst (λ moved. ShowsOrAnswers moved c.nodes_looked_at.result)
    (nodes_are_shown c.args.tables.now past c.args.caller.now tabled c.in-Resources.project
    ∙ ap (look_at (log_state past) c.args.caller.now) (sym c.in-Resources.is))
    (rw c.as_str-in-Resources.ensures at c.nodes_looked_at.ensures)

pub returns-in-Executions : goal.returns-in-Executions
returns-in-Executions c past tabled =
    let page = c.executions_in.ensures (executions past) tabled.says.executions in
    subst (λ moved. ShowsOrAnswers moved c.executions_in.result)
    (executions_are_shown c.args.tables.now past c.args.caller.now tabled c.in-Executions.project
    c.in-Executions.max c.in-Executions.offset c.in-Executions.status
    ∙ ap (look_at (log_state past) c.args.caller.now) (sym c.in-Executions.is))
    (rw c.as_str-in-Executions.ensures at page)
