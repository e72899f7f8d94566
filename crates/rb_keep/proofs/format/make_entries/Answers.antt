use Rattle.std.proofs.Common.{inl, inr, [], Ok, sym, subst}
use Rattle.sqlite.specs.Held.{state}
use Rattle.sqlite.specs.State.{Executes}
use Rattle.rb_keep.specs.Tables.{First, Second, Holds}
use Rattle.rb_keep.proofs.Making.{makes_entries, entries_kept}
use Rattle.rb_keep.proofs.Passing.{stays_executed, executed_inside}
use Rattle.rb_keep.proofs.Statements.{make_entries}
use Rattle.rb_keep.proofs.format.make_entries.Goals as goal

pub returns-clause-stays : goal.returns-clause-stays
returns-clause-stays g c =
    stays_executed g.S.Store c.args.tx.now.conn.now c.execute.new.self.conn.now make_entries [] (Ok c.in_ok-execute.field-0) _ (λ no. no)
    c.in_ok-execute.ensures.ended c.in_ok-execute.ensures.runs c.in_ok-execute.ensures.survives

pub returns-clause-made : goal.returns-clause-made
returns-clause-made g c clean log stores =
    let old = state g.S.Store c.args.tx.now.conn.now in
    let new = state g.S.Store c.execute.new.self.conn.now in
    let did : Executes make_entries [] old new (Ok c.in_ok-execute.field-0) =
    executed_inside g.S.Store c.args.tx.now.conn.now c.execute.new.self.conn.now make_entries [] c.in_ok-execute.field-0
    c.in_ok-execute.ensures.ended c.in_ok-execute.ensures.runs clean in
    elim stores [
      | inl bare ↦ inl (subst (λ l. Holds First new.now l) (sym bare.1) (makes_entries old new c.in_ok-execute.field-0 bare.0 did))
      | inr held ↦ elim held [ inl one ↦ inl (entries_kept First old new c.in_ok-execute.field-0 log one did) | inr two ↦ inr (entries_kept Second old new c.in_ok-execute.field-0 log two did) ]
    ]
