use Rattle.rb_looks.specs.Looking.{nodes_looked_at}
use Rattle.rb_looks.proofs.ProjectShows.{nodes_denied}
use Rattle.rb_looks.proofs.Shows.{told_on}
use Rattle.rb_looks.proofs.looking.nodes_looked_at.Goals as goal

pub returns-in_err-permitted_on_kind-in-Some : goal.returns-in_err-permitted_on_kind-in-Some
returns-in_err-permitted_on_kind-in-Some c =
    let a = c.in_err-permitted_on_kind-in-Some.field-0.0 in
    told_on (nodes_looked_at c.args.world.now c.args.caller.now c.args.project.now)
    c.from_residual-in_err-permitted_on_kind-in-Some.result a
    c.from_residual-in_err-permitted_on_kind-in-Some.ensures.1
    (nodes_denied c.args.world.now c.args.caller.now c.args.project.now c.in-Some.found.now a
    (rw c.as_slice.ensures at c.in-Some.ensures)
    (rw c.in_ok-of-in-Some.ensures at c.in_err-permitted_on_kind-in-Some.ensures))
