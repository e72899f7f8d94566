use Rattle.std.proofs.Common.{◌∙◌, sym}
use Rattle.rb_log.specs.Executions.{is_running}
use Rattle.rb_log.specs.declared.answer.Answer.TheVariants as answer
use Rattle.rb_tables.proofs.DeskAt.{desk_there, desk_told}
use Rattle.rb_runs.proofs.AtNumber.{must_fails, must_holds}
use Rattle.rb_runs.proofs.aborting.must_run.Goals as goal

pub returns-then-runs : goal.returns-then-runs
returns-then-runs c past e tabled get =
    let x = desk_there c.args.tables.now past tabled.says c.args.place e get in
    must_holds (is_running e) answer.Ended
    (sym (c.if-runs.ensures x.execution e x.found x.entry.is
    ∙ desk_told c.log_laws.ensures c.args.tables.now past tabled c.args.place e get))

pub returns-else-runs : goal.returns-else-runs
returns-else-runs c past e tabled get =
    let x = desk_there c.args.tables.now past tabled.says c.args.place e get in
    must_fails (is_running e) answer.Ended
    (sym (c.if-runs.ensures x.execution e x.found x.entry.is
    ∙ desk_told c.log_laws.ensures c.args.tables.now past tabled c.args.place e get))
