use Rattle.rb_export.proofs.Grouping.{some_items}
use Rattle.rb_export.proofs.Thousands.{next_part}
use Rattle.rb_export.proofs.jobs.next_document.Goals as goal

pub returns-clause-parts : goal.returns-clause-parts
returns-clause-parts c =
    let xs = c.args.jobs.now in
    let some = some_items xs (rw c.is_empty.ensures at c.if-is_empty.false) in
    rw (c.split_at.ensures.front, c.split_at.ensures.back, c.min.ensures)
    (next_part xs some)
