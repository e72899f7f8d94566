use Rattle.std.proofs.Common.{arith}
use Rattle.rb_export.specs.Policies.{test_key}
use Rattle.rb_export.proofs.Grouping.{count_most, first_parts, begins_with, some_items}
use Rattle.rb_export.proofs.rules.first_group.Goals as goal

pub split_at-requires : goal.split_at-requires
split_at-requires c =
    omega (
      arith,
      c.count_of_key.ensures,
      count_most test_key c.test_key-key.result.now c.args.tests.now,
    )

pub returns-clause-parts : goal.returns-clause-parts
returns-clause-parts c =
    let xs = c.args.tests.now in
    let x = c.index-tests-0.result in
    let some = some_items xs (rw c.is_empty.ensures at c.if-is_empty.false) in
    let first = begins_with xs x some c.index-tests-0.is in
    rw (c.split_at.ensures.front, c.split_at.ensures.back)
    (first_parts test_key xs x c.test_key-key.result.now c.count_of_key.result first.0 first.1
    c.test_key-key.ensures c.count_of_key.ensures)
