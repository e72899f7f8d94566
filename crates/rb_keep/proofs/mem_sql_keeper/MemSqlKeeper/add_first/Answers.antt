use Rattle.std.proofs.Common.{◌≡◌, List, ◌++◌, pos, ◌+ℤ◌, length, sym, ap, subst, ◌∙◌, rules, w64, to_z, of_z, FitsSigned}
use Rattle.std.proofs.lemmas.Int.{to_z-of_z}
use Rattle.sqlite.proofs.Callers.{memory_is_clean}
use Rattle.rb_causes.specs.declared.row.Row.{Row}
use Rattle.rb_keep.specs.Stores.{StoreState, IsKept}
use Rattle.rb_keep.specs.Tables.{Stores, rows_of}
use Rattle.rb_keep.proofs.Held.{rows_stored}
use Rattle.rb_keep.proofs.Kept.{shown, on_error, as_before, kept_as_before, kept_longer}
use Rattle.rb_keep.proofs.mem_sql_keeper.MemSqlKeeper.add_first.Goals as goal

pub invariant_of-self : goal.invariant_of-self
invariant_of-self c =
    kept_as_before c.self.inside.conn c.put_first.new.conn c.self.inside.last c.self.invariant c.put_first.ensures.idle c.put_first.ensures.passes
    (as_before c.self.inside.conn c.put_first.new.conn c.self.inside.last c.self.invariant c.put_first.ensures.idle c.put_first.ensures.passes c.in_err-self-inside.ensures.refused)

pub returns-in_err-self-inside-clause-err : goal.returns-in_err-self-inside-clause-err
returns-in_err-self-inside-clause-err c =
    let same = as_before c.self.inside.conn c.put_first.new.conn c.self.inside.last c.self.invariant c.put_first.ensures.idle c.put_first.ensures.passes c.in_err-self-inside.ensures.refused in
    on_error c.from_residual.result (ap rows_of same ∙ ap (λ (s : StoreState). s.rows) c.self.view_is)

pub invariant_of-self-2 : goal.invariant_of-self-2
invariant_of-self-2 c =
    let fits : FitsSigned w64 c.in_ok-self-inside.field-0 = search rules in
    let count : to_z w64 (of_z w64 c.in_ok-self-inside.field-0) ≡ c.in_ok-self-inside.field-0 = to_z-of_z w64 c.in_ok-self-inside.field-0 fits in
    let last_fits : FitsSigned w64 c.self.inside.last = search rules in
    let from : to_z w64 (of_z w64 c.self.inside.last) ≡ c.self.inside.last = to_z-of_z w64 c.self.inside.last last_fits in
    let added = subst (λ n. (c.in_ok-self-inside.field-0 ≡ n +ℤ pos (length c.args.rows.now))
    × ((log : List Row) → n ≡ pos (length log) → Stores (shown c.self.inside.conn) log → Stores (shown c.put_first.new.conn) (log ++ c.args.rows.now))) from
    (c.in_ok-self-inside.ensures.added (memory_is_clean c.put_first.new.conn)) in
    let stores = added.1 (rows_of (shown c.self.inside.conn)) c.self.invariant.count c.self.invariant.held in
    subst (IsKept c.put_first.new.conn) (sym count)
    (kept_longer c.self.inside.conn c.put_first.new.conn c.self.inside.last c.self.invariant c.put_first.ensures.idle c.put_first.ensures.passes c.args.rows.now c.in_ok-self-inside.field-0 added.0 stores)

pub returns-clause-ok : goal.returns-clause-ok
returns-clause-ok c =
    let last_fits : FitsSigned w64 c.self.inside.last = search rules in
    let from : to_z w64 (of_z w64 c.self.inside.last) ≡ c.self.inside.last = to_z-of_z w64 c.self.inside.last last_fits in
    let added = subst (λ n. (c.in_ok-self-inside.field-0 ≡ n +ℤ pos (length c.args.rows.now))
    × ((log : List Row) → n ≡ pos (length log) → Stores (shown c.self.inside.conn) log → Stores (shown c.put_first.new.conn) (log ++ c.args.rows.now))) from
    (c.in_ok-self-inside.ensures.added (memory_is_clean c.put_first.new.conn)) in
    let stores = added.1 (rows_of (shown c.self.inside.conn)) c.self.invariant.count c.self.invariant.held in
    rows_stored (shown c.put_first.new.conn) (rows_of (shown c.self.inside.conn) ++ c.args.rows.now) stores ∙ ap (λ (s : StoreState). s.rows ++ c.args.rows.now) c.self.view_is
