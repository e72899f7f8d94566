use Rattle.std.proofs.Common.{[], Vec, Global, rules}
use Rattle.sqlite.specs.Held.{state}
use Rattle.rb_causes.specs.declared.row.Row.{Row}
use Rattle.rb_keep.proofs.Passing.{stays_shown, stays_unshown}
use Rattle.rb_keep.proofs.Shown.{rows_read}
use Rattle.rb_keep.proofs.Statements.{select}
use Rattle.rb_keep.proofs.reading.all_rows.Goals as goal

pub returns-in_err-stored-clause-stays : goal.returns-in_err-stored-clause-stays
returns-in_err-stored-clause-stays g c =
    stays_unshown select [] (state g.S.Store c.args.tx.now.conn.now) (state g.S.Store c.query_all.new.self.conn.now) _ c.from_residual.result (search rules)
    c.in_err-stored.ensures.err c.query_all.ensures.survives

pub returns-clause-stays : goal.returns-clause-stays
returns-clause-stays g c =
    stays_shown select [] (state g.S.Store c.args.tx.now.conn.now) (state g.S.Store c.query_all.new.self.conn.now) c.in_ok-stored.stored.items c.read_all.result
    c.in_ok-stored.ensures.ok c.query_all.ensures.survives

pub returns-clause-read : goal.returns-clause-read
returns-clause-read g c clean =
    rows_read (λ (rows : Vec Row Global). rows.items) (state g.S.Store c.args.tx.now.conn.now) (state g.S.Store c.query_all.new.self.conn.now) c.in_ok-stored.stored.items c.deref.result.now
    c.read_all.result c.deref.ensures.value (c.in_ok-stored.ensures.ok clean) c.read_all.ensures
