use Rattle.std.proofs.Common.{Vec, Global, ◌≡◌, IfOk, ap, subst, ◌∙◌}
use Rattle.rb_causes.specs.declared.row.Row.{Row}
use Rattle.rb_keep.specs.Stores.{StoreState}
use Rattle.rb_keep.proofs.Kept.{kept_all, rows_all, read_all, shaped_all}
use Rattle.rb_keep.proofs.mem_sql_keeper.MemSqlKeeper.all.Goals as goal

pub invariant_of-self : goal.invariant_of-self
invariant_of-self c =
    kept_all c.self.inside.conn c.settled_rows.new.conn c.self.inside.last c.self.invariant c.settled_rows.ensures.idle c.settled_rows.ensures.passes (λ (rows : Vec Row Global). rows.items)
    c.settled_rows.result c.settled_rows.ensures.refused c.settled_rows.ensures.settled

pub returns-clause-rows : goal.returns-clause-rows
returns-clause-rows c =
    subst (λ (s : StoreState). IfOk c.settled_rows.result (λ (rows : Vec Row Global). rows.items ≡ s.rows)) c.self.view_is
    (read_all c.self.inside.conn c.settled_rows.new.conn c.self.inside.last c.self.invariant c.settled_rows.ensures.idle c.settled_rows.ensures.passes (λ (rows : Vec Row Global). rows.items)
    c.settled_rows.result c.settled_rows.ensures.refused c.settled_rows.ensures.settled)

pub returns-clause-same : goal.returns-clause-same
returns-clause-same c =
    rows_all c.self.inside.conn c.settled_rows.new.conn c.self.inside.last c.self.invariant c.settled_rows.ensures.idle c.settled_rows.ensures.passes (λ (rows : Vec Row Global). rows.items)
    c.settled_rows.result c.settled_rows.ensures.refused c.settled_rows.ensures.settled
    ∙ ap (λ (s : StoreState). s.rows) c.self.view_is

pub returns-clause-shaped : goal.returns-clause-shaped
returns-clause-shaped c =
    shaped_all c.self.inside.conn c.settled_rows.new.conn c.self.inside.last c.self.invariant c.settled_rows.ensures.idle c.settled_rows.ensures.passes (λ (rows : Vec Row Global). rows.items)
    c.settled_rows.result c.settled_rows.ensures.refused c.settled_rows.ensures.settled
