use Rattle.std.proofs.Common.{rules}
use Rattle.std.proofs.lemmas.Fn.{always_returns_same}
use Rattle.rb_acl.proofs.Keyings.{is_below, is_upto, parted_below, parted_upto, first_behind, part_under}
use Rattle.rb_acl.proofs.keyed.under.Goals as goal

pub slice_bounds-result-count : goal.slice_bounds-result-count
slice_bounds-result-count c =
    let text = c.args.text.now in
    let first = c.partition_point-first.ensures.partitioned (is_below text)
    (always_returns_same _ _ _ (λ a r f k. search rules))
    (parted_below text c.args.keyed.now c.requires) in
    let behind = c.partition_point-behind.ensures.partitioned (is_upto text)
    (always_returns_same _ _ _ (λ a r f k. search rules))
    (parted_upto text c.args.keyed.now c.requires) in
    first_behind text c.args.keyed.now _ _ c.partition_point-first.ensures.bound first.0 behind.1

pub slice_bounds-result-start : goal.slice_bounds-result-start
slice_bounds-result-start c =
    let text = c.args.text.now in
    let first = c.partition_point-first.ensures.partitioned (is_below text)
    (always_returns_same _ _ _ (λ a r f k. search rules))
    (parted_below text c.args.keyed.now c.requires) in
    let behind = c.partition_point-behind.ensures.partitioned (is_upto text)
    (always_returns_same _ _ _ (λ a r f k. search rules))
    (parted_upto text c.args.keyed.now c.requires) in
    first_behind text c.args.keyed.now _ _ c.partition_point-first.ensures.bound first.0 behind.1

pub returns : goal.returns
returns c =
    let text = c.args.text.now in
    let first = c.partition_point-first.ensures.partitioned (is_below text)
    (always_returns_same _ _ _ (λ a r f k. search rules))
    (parted_below text c.args.keyed.now c.requires) in
    let behind = c.partition_point-behind.ensures.partitioned (is_upto text)
    (always_returns_same _ _ _ (λ a r f k. search rules))
    (parted_upto text c.args.keyed.now c.requires) in
    part_under text c.args.keyed.now _ _ c.partition_point-first.ensures.bound
    c.partition_point-behind.ensures.bound first.0 first.1 behind.0 behind.1
