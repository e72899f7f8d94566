use Rattle.std.proofs.Common.{◌≡◌, ◌+ℤ◌, pos, Ok, subst, rules}
use Rattle.sqlite.specs.Held.{state}
use Rattle.sqlite.specs.State.{Executes}
use Rattle.sqlite.specs.Values.{bound}
use Rattle.rb_keep.specs.Tables.{given_by}
use Rattle.rb_keep.proofs.Changes.{adds}
use Rattle.rb_keep.proofs.Passing.{stays_executed, executed_inside}
use Rattle.rb_keep.proofs.Statements.{insert}
use Rattle.rb_keep.proofs.appending.add.Goals as goal

pub returns-clause-stays : goal.returns-clause-stays
returns-clause-stays g c =
    stays_executed g.S.Store c.args.tx.now.conn.now c.execute.new.self.conn.now insert _ (Ok c.in_ok-execute.field-0) _ (λ no. no)
    c.in_ok-execute.ensures.ended c.in_ok-execute.ensures.runs c.in_ok-execute.ensures.survives

pub returns-clause-added : goal.returns-clause-added
returns-clause-added g c clean =
    let did = executed_inside g.S.Store c.args.tx.now.conn.now c.execute.new.self.conn.now insert _ c.in_ok-execute.field-0
    c.in_ok-execute.ensures.ended c.in_ok-execute.ensures.runs clean in
    let given : bound c.given.result ≡ given_by (c.args.last +ℤ pos 1) c.args.row.now = search rules in (
      search rules,
      adds c.args.last c.args.row.now (state g.S.Store c.args.tx.now.conn.now) (state g.S.Store c.execute.new.self.conn.now) c.in_ok-execute.field-0
          (subst (λ params. Executes insert params (state g.S.Store c.args.tx.now.conn.now) (state g.S.Store c.execute.new.self.conn.now) (Ok c.in_ok-execute.field-0)) given did),
    )
