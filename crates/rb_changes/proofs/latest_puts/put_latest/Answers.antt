use Rattle.std.proofs.Common.{◌≡◌, ◌∙◌, ◌+◌, List, length, slice_set, ap, sym, arith}
use Rattle.rb_log.specs.World.{Latest, row_name, count_of}
use Rattle.rb_changes.proofs.Puts.{held_low, held_is, held_first, held_put, free_put, held_in, free_in}
use Rattle.rb_changes.proofs.latest_puts.put_latest.Goals as goal

pub put_at-requires-clause-place : goal.put_at-requires-clause-place
put_at-requires-clause-place c =
    omega (
      arith,
      c.in-Err.ensures.err.within,
      ap length c.as_slice.ensures.value,
      c.as_slice.ensures.len,
    )

pub index_mut-requires : goal.index_mut-requires
index_mut-requires c =
    let low =
    held_low row_name c.as_str.result.now c.as_slice.result.now c.in-Ok.place c.in-Ok.ensures.ok in
    omega (arith, low, ap length c.as_slice.ensures.value, c.as_slice.ensures.len)

pub overflow_add-count : goal.overflow_add-count
overflow_add-count c =
    let items : List Latest = c.args.all.now.items in
    let held =
    held_in row_name c.args.row.name c.as_str.result.now items c.as_slice.result.now c.in-Ok.place
    c.as_str.ensures c.as_slice.ensures.value c.in-Ok.ensures.ok in
    let count =
    ap count_of (held_first row_name c.args.row.name items c.in-Ok.place held) in
    let is =
    held_is row_name c.args.row.name items c.in-Ok.place held c.index.result.now
    c.index.ensures in
    let counted : c.behind-all.inside.count ≡ held.found.count =
    ap (λ (l : Latest). l.count) (c.behind-all.view_is ∙ sym is) in
    omega (arith, count, counted, c.requires.count)

pub returns-in-Ok : goal.returns-in-Ok
returns-in-Ok c =
    let items : List Latest = c.args.all.now.items in
    let held =
    held_in row_name c.args.row.name c.as_str.result.now items c.as_slice.result.now c.in-Ok.place
    c.as_str.ensures c.as_slice.ensures.value c.in-Ok.ensures.ok in
    let is =
    held_is row_name c.args.row.name items c.in-Ok.place held c.index.result.now
    c.index.ensures in
    let counted : c.behind-all.inside.count ≡ held.found.count =
    ap (λ (l : Latest). l.count) (c.behind-all.view_is ∙ sym is) in
    ap (λ n. slice_set items c.in-Ok.place (record { row = c.args.row; count = n + 1 })) counted
    ∙ held_put row_name (record { row = c.args.row; count = 1 })
    (λ l. record { row = c.args.row; count = l.count + 1 }) items c.in-Ok.place held

pub returns-in-Err : goal.returns-in-Err
returns-in-Err c =
    let items : List Latest = c.args.all.now.items in
    let free =
    free_in row_name c.args.row.name c.as_str.result.now items c.as_slice.result.now
    c.in-Err.place c.as_str.ensures c.as_slice.ensures.value c.in-Err.ensures.err in
    c.put_at.ensures.held
    ∙ free_put row_name (record { row = c.args.row; count = 1 })
    (λ l. record { row = c.args.row; count = l.count + 1 }) items c.in-Err.place free
