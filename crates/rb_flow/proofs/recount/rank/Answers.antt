use Rattle.std.proofs.Common.{nat_lt, rules}
use Rattle.std.proofs.lemmas.List.Sorted.{IsPartitionPoint-from_clause, IsPartitionedBy-ltb}
use Rattle.rb_flow.proofs.TallyPlaces.{rank_parts}
use Rattle.rb_flow.proofs.recount.rank.Goals as goal

pub returns : goal.returns
returns c =
    let places = c.args.places.now in
    let place = c.args.place in
    let parted = IsPartitionedBy-ltb (λ p. p) places place c.requires in
    rank_parts places c.partition_point.result place c.partition_point.ensures.bound
    (IsPartitionPoint-from_clause (λ p. nat_lt p place) places _
    c.partition_point.ensures.partitioned parted (λ a r q k. search rules))
