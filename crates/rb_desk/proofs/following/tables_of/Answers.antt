use Rattle.std.proofs.Common.{◌≡◌, ◌<◌, ◌^◌, List, length, nat_eq, arith}
use Rattle.rb_causes.specs.declared.row.Row.{Row}
use Rattle.rb_desk.specs.Following.{is_empty}
use Rattle.rb_desk.proofs.BadRows.{first_empty, first_rows, follows_on, refused_by}
use Rattle.rb_desk.proofs.following.tables_of.Goals as goal

pub returns-in-Err-clause-refused : goal.returns-in-Err-clause-refused
returns-in-Err-clause-refused c =
    let rows : List Row = c.args.rows.now in
    let n = c.loop-place.place in
    let first : nat_eq n 0 ≡ is_empty (first_rows rows n) =
    first_empty rows n (omega (arith, c.loop-place-test.true)) in
    refused_by rows n c.index-rows-place.result c.in-Err.unfit c.at_row.result
    c.loop-place-test.true c.index-rows-place.is c.loop-place.invariant.legal
    (c.in-Err.ensures (first_rows rows n) c.loop-place.invariant first) c.at_row.ensures.illegal
    c.at_row.ensures.memory

pub loop-place-preserved : goal.loop-place-preserved
loop-place-preserved c =
    let rows : List Row = c.args.rows.now in
    let n = c.loop-place.place in
    let first : nat_eq n 0 ≡ is_empty (first_rows rows n) =
    first_empty rows n (omega (arith, c.loop-place-test.true)) in
    let few : length rows < 2 ^ 40 = omega (arith, c.if-rows-ge-MOST_ROWS.false) in
    follows_on rows n c.index-rows-place.result c.loop-place.tables c.follow.new.tables
    c.loop-place-test.true few c.index-rows-place.is c.loop-place.invariant
    (c.in-Ok.ensures (first_rows rows n) c.loop-place.invariant first)
