use Rattle.std.proofs.lemmas.Result.{IfOk-weaker}
use Rattle.rb_imports.proofs.Bodies.{body_unread, docs_unread}
use Rattle.rb_imports.proofs.readings.read_body_jobs.Goals as goal

pub returns-in_err-docs-clause-err : goal.returns-in_err-docs-clause-err
returns-in_err-docs-clause-err c =
    body_unread c.args.zones.now c.args.body.now c.from_residual.result c.in_err-docs.field-0.0
    c.from_residual.ensures.1 c.in_err-docs.ensures.err

pub returns-clause-ok : goal.returns-clause-ok
returns-clause-ok c =
    IfOk-weaker c.read_import.result _ _
    (λ jobs h. record { docs = _; docs_are = c.in_ok-docs.ensures.ok; read = h })
    (rw c.as_slice.ensures.value at c.read_import.ensures.ok)

pub returns-clause-err : goal.returns-clause-err
returns-clause-err c =
    docs_unread c.args.zones.now c.args.body.now _ c.read_import.result c.in_ok-docs.ensures.ok
    (rw c.as_slice.ensures.value at c.read_import.ensures.err)
