use Rattle.std.proofs.Common.{arith}
use Rattle.rb_export.specs.Policies.{by_key}
use Rattle.rb_export.proofs.Grouping.{count_most, first_parts, begins_with, some_items}
use Rattle.rb_export.proofs.scopes.first_group.Goals as goal

pub split_at-requires : goal.split_at-requires
split_at-requires c =
    omega (
      arith,
      c.count_of_key.ensures,
      count_most by_key c.by_key-key.result.now c.args.by.now,
    )

pub returns-clause-parts : goal.returns-clause-parts
returns-clause-parts c =
    let xs = c.args.by.now in
    let x = c.index-by-0.result in
    let some = some_items xs (rw c.is_empty.ensures at c.if-is_empty.false) in
    let first = begins_with xs x some c.index-by-0.is in
    rw (c.split_at.ensures.front, c.split_at.ensures.back)
    (first_parts by_key xs x c.by_key-key.result.now c.count_of_key.result first.0 first.1
    c.by_key-key.ensures c.count_of_key.ensures)
