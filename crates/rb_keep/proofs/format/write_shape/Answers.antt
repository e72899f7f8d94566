use Rattle.std.proofs.Common.{[], Ok}
use Rattle.sqlite.specs.Held.{state}
use Rattle.sqlite.specs.State.{Executes}
use Rattle.rb_keep.proofs.Making.{writes_shape}
use Rattle.rb_keep.proofs.Passing.{stays_executed, executed_inside}
use Rattle.rb_keep.proofs.Statements.{write_shape}
use Rattle.rb_keep.proofs.format.write_shape.Goals as goal

pub returns-clause-stays : goal.returns-clause-stays
returns-clause-stays g c =
    stays_executed g.S.Store c.args.tx.now.conn.now c.execute.new.self.conn.now write_shape [] (Ok c.in_ok-execute.field-0) _ (λ no. no)
    c.in_ok-execute.ensures.ended c.in_ok-execute.ensures.runs c.in_ok-execute.ensures.survives

pub returns-clause-written : goal.returns-clause-written
returns-clause-written g c clean log held =
    let old = state g.S.Store c.args.tx.now.conn.now in
    let new = state g.S.Store c.execute.new.self.conn.now in
    let did : Executes write_shape [] old new (Ok c.in_ok-execute.field-0) =
    executed_inside g.S.Store c.args.tx.now.conn.now c.execute.new.self.conn.now write_shape [] c.in_ok-execute.field-0
    c.in_ok-execute.ensures.ended c.in_ok-execute.ensures.runs clean in
    writes_shape old new c.in_ok-execute.field-0 log held did
