use Rattle.std.proofs.Common.{arith}
use Rattle.rb_tables.proofs.OwedRows.{owed_small}
use Rattle.rb_tables.proofs.tables.Tables.owed.Goals as goal

pub overflow_add-result : goal.overflow_add-result
overflow_add-result c =
    let tabled = c.requires.1 in
    let small = owed_small c.log_laws.ensures c.requires.0 tabled.legal tabled.few in
    record { fits = omega (arith, small, tabled.says.owed, c.len.ensures) }
