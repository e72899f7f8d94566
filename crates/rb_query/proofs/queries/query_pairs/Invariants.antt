use Rattle.std.proofs.Common.{◌≡◌, ◌++◌, map}
use Rattle.form_urlencoded.specs.Parse.{pairs_left}
use Rattle.rb_query.specs.Queries.{form_pair, query_pairs}
use Rattle.rb_query.proofs.queries.query_pairs.Given as goal

-- the pairs so far, and those that are left, are all pairs
abbrev pub invariant-loop-pair : goal.invariant-loop-pair
invariant-loop-pair l =
    (goal.iterator-loop-pair).can_next l.pair-iterator
    × (goal.iterator-loop-pair).is_finite l.pair-iterator
    × (l.pairs ++ map form_pair (pairs_left l.pair-iterator) ≡ query_pairs l.query)
