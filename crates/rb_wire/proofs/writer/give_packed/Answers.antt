use Rattle.std.proofs.Common.{◌-◌, map, take, drop, length, Result, Ok, Err, OnErr}
use Rattle.std.specs.List.{concat}
use Rattle.rb_wire.proofs.Writes.{cut_left, packed_whole}
use Rattle.rb_wire.proofs.writer.give_packed.Goals as goal

err_by : {T E : Type 0} (r : Result T E) (P Q : Type 0) → (P → Q) → OnErr r P → OnErr r Q
err_by (Ok v) P Q f h = h
err_by (Err e) P Q f h = f h

pub returns-clause-err : goal.returns-clause-err
returns-clause-err g c =
    let pieces = c.args.pieces.now in
    let packed = c.pack-packed.result in
    let left = concat (map (λ p. p.now) (take (length pieces - packed) (drop packed pieces))) in
    let whole = packed_whole c.as_slice.result.now _ _ pieces packed c.as_slice.ensures.value
    c.new-packet.ensures c.pack-packed.ensures.packed in
    err_by c.give_each.result _ _
    (cut_left _ _ _ c.as_slice.result.now left (concat (map (λ p. p.now) pieces)) whole
    c.in_ok-give_all.ensures.ok) c.give_each.ensures.err
