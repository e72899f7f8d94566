use Rattle.std.proofs.Common.{inl, inr, [], Ok}
use Rattle.sqlite.specs.Held.{state}
use Rattle.sqlite.specs.State.{Executes}
use Rattle.rb_keep.proofs.Making.{makes_shape, shape_kept}
use Rattle.rb_keep.proofs.Passing.{stays_executed, executed_inside}
use Rattle.rb_keep.proofs.Statements.{make_shape}
use Rattle.rb_keep.proofs.format.make_shape.Goals as goal

pub returns-clause-stays : goal.returns-clause-stays
returns-clause-stays g c =
    stays_executed g.S.Store c.args.tx.now.conn.now c.execute.new.self.conn.now make_shape [] (Ok c.in_ok-execute.field-0) _ (λ no. no)
    c.in_ok-execute.ensures.ended c.in_ok-execute.ensures.runs c.in_ok-execute.ensures.survives

pub returns-clause-made : goal.returns-clause-made
returns-clause-made g c clean log held =
    let old = state g.S.Store c.args.tx.now.conn.now in
    let new = state g.S.Store c.execute.new.self.conn.now in
    let did : Executes make_shape [] old new (Ok c.in_ok-execute.field-0) =
    executed_inside g.S.Store c.args.tx.now.conn.now c.execute.new.self.conn.now make_shape [] c.in_ok-execute.field-0
    c.in_ok-execute.ensures.ended c.in_ok-execute.ensures.runs clean in
    elim held [ inl one ↦ inl (makes_shape old new c.in_ok-execute.field-0 log one did) | inr two ↦ inr (shape_kept old new c.in_ok-execute.field-0 log two did) ]
