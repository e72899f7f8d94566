use Rattle.std.proofs.Common.{[], rules}
use Rattle.sqlite.specs.Held.{state}
use Rattle.rb_keep.proofs.Passing.{stays_shown, stays_unshown}
use Rattle.rb_keep.proofs.Shown.{numbers_read}
use Rattle.rb_keep.proofs.Statements.{read_shape}
use Rattle.rb_keep.proofs.format.shape.Goals as goal

pub returns-in_err-rows-clause-stays : goal.returns-in_err-rows-clause-stays
returns-in_err-rows-clause-stays g c =
    stays_unshown read_shape [] (state g.S.Store c.args.tx.now.conn.now) (state g.S.Store c.query_all.new.self.conn.now) _ c.from_residual.result (search rules)
    c.in_err-rows.ensures.err c.query_all.ensures.survives

pub returns-clause-stays : goal.returns-clause-stays
returns-clause-stays g c =
    stays_shown read_shape [] (state g.S.Store c.args.tx.now.conn.now) (state g.S.Store c.query_all.new.self.conn.now) c.in_ok-rows.rows.items c.first_number.result
    c.in_ok-rows.ensures.ok c.query_all.ensures.survives

pub returns-clause-read : goal.returns-clause-read
returns-clause-read g c clean =
    numbers_read (state g.S.Store c.args.tx.now.conn.now) (state g.S.Store c.query_all.new.self.conn.now) c.in_ok-rows.rows.items c.deref.result.now c.first_number.result
    c.deref.ensures.value (c.in_ok-rows.ensures.ok clean) c.first_number.ensures.none c.first_number.ensures.first
