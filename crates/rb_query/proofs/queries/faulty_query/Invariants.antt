use Rattle.std.proofs.Common.{◌≡◌, drop}
use Rattle.rb_query.specs.Queries.{first_faulty}
use Rattle.rb_query.proofs.queries.faulty_query.Given as goal

-- what is first faulty of those that are left is that of all
abbrev pub invariant-loop-pair : goal.invariant-loop-pair
invariant-loop-pair l =
    first_faulty l.route l.pairs (drop l.pair-index l.pairs) ≡ first_faulty l.route l.pairs l.pairs
