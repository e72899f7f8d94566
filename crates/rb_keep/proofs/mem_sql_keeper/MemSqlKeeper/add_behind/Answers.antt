use Rattle.std.proofs.Common.{◌≡◌, ◌++◌, pos, ◌+ℤ◌, length, sym, ap, subst, ◌∙◌, rules, w64, to_z, of_z, FitsSigned}
use Rattle.std.proofs.lemmas.Int.{to_z-of_z}
use Rattle.sqlite.proofs.Callers.{memory_is_clean}
use Rattle.rb_keep.specs.Stores.{StoreState, IsKept}
use Rattle.rb_keep.specs.Tables.{Adds, rows_of}
use Rattle.rb_keep.proofs.Held.{rows_stored}
use Rattle.rb_keep.proofs.Kept.{shown, on_error, as_before, kept_as_before, kept_longer, stores_behind}
use Rattle.rb_keep.proofs.mem_sql_keeper.MemSqlKeeper.add_behind.Goals as goal

pub invariant_of-self : goal.invariant_of-self
invariant_of-self c =
    kept_as_before c.self.inside.conn c.append.new.conn c.self.inside.last c.self.invariant c.append.ensures.idle c.append.ensures.passes
    (as_before c.self.inside.conn c.append.new.conn c.self.inside.last c.self.invariant c.append.ensures.idle c.append.ensures.passes c.in_err-self-inside.ensures.refused)

pub returns-in_err-self-inside-clause-err : goal.returns-in_err-self-inside-clause-err
returns-in_err-self-inside-clause-err c =
    let same = as_before c.self.inside.conn c.append.new.conn c.self.inside.last c.self.invariant c.append.ensures.idle c.append.ensures.passes c.in_err-self-inside.ensures.refused in
    on_error c.from_residual.result (ap rows_of same ∙ ap (λ (s : StoreState). s.rows) c.self.view_is)

pub invariant_of-self-2 : goal.invariant_of-self-2
invariant_of-self-2 c =
    let fits : FitsSigned w64 c.in_ok-self-inside.field-0 = search rules in
    let count : to_z w64 (of_z w64 c.in_ok-self-inside.field-0) ≡ c.in_ok-self-inside.field-0 = to_z-of_z w64 c.in_ok-self-inside.field-0 fits in
    let shaped = ap (λ (s : StoreState). s.shaped) c.self.view_is ∙ c.requires in
    let last_fits : FitsSigned w64 c.self.inside.last = search rules in
    let from : to_z w64 (of_z w64 c.self.inside.last) ≡ c.self.inside.last = to_z-of_z w64 c.self.inside.last last_fits in
    let added = subst (λ n. (c.in_ok-self-inside.field-0 ≡ n +ℤ pos (length c.args.more.now)) × Adds n c.args.more.now (shown c.self.inside.conn) (shown c.append.new.conn)) from
    (c.in_ok-self-inside.ensures.added (memory_is_clean c.append.new.conn)) in
    let stores = stores_behind c.self.inside.conn c.append.new.conn c.self.inside.last c.self.invariant c.append.ensures.idle c.append.ensures.passes c.args.more.now shaped added.1 in
    subst (IsKept c.append.new.conn) (sym count)
    (kept_longer c.self.inside.conn c.append.new.conn c.self.inside.last c.self.invariant c.append.ensures.idle c.append.ensures.passes c.args.more.now c.in_ok-self-inside.field-0 added.0 stores)

pub returns-clause-ok : goal.returns-clause-ok
returns-clause-ok c =
    let shaped = ap (λ (s : StoreState). s.shaped) c.self.view_is ∙ c.requires in
    let last_fits : FitsSigned w64 c.self.inside.last = search rules in
    let from : to_z w64 (of_z w64 c.self.inside.last) ≡ c.self.inside.last = to_z-of_z w64 c.self.inside.last last_fits in
    let added = subst (λ n. (c.in_ok-self-inside.field-0 ≡ n +ℤ pos (length c.args.more.now)) × Adds n c.args.more.now (shown c.self.inside.conn) (shown c.append.new.conn)) from
    (c.in_ok-self-inside.ensures.added (memory_is_clean c.append.new.conn)) in
    let stores = stores_behind c.self.inside.conn c.append.new.conn c.self.inside.last c.self.invariant c.append.ensures.idle c.append.ensures.passes c.args.more.now shaped added.1 in
    rows_stored (shown c.append.new.conn) (rows_of (shown c.self.inside.conn) ++ c.args.more.now) stores ∙ ap (λ (s : StoreState). s.rows ++ c.args.more.now) c.self.view_is
