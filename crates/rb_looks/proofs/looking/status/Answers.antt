use Rattle.std.proofs.Common.{◌∙◌, option_map, Some, ap, sym}
use Rattle.rb_log.specs.Executions.{execution_status}
use Rattle.rb_looks.proofs.Shows.{is_known, no_status}
use Rattle.rb_looks.proofs.looking.status.Goals as goal

pub returns-in-None : goal.returns-in-None
returns-in-None c past tabled =
    no_status c.args.tables.now past tabled c.args.number
    (rw c.as_slice.ensures.value at c.in-None.ensures)

pub returns-in-Some : goal.returns-in-Some
returns-in-Some c past tabled =
    let known = is_known c.args.tables.now past tabled c.args.number c.in-Some.execution.now
    (rw c.as_slice.ensures.value at c.in-Some.ensures) in
    ap Some (c.status.ensures known.execution known.entry.is.progress)
    ∙ ap (option_map execution_status) (sym known.among)
