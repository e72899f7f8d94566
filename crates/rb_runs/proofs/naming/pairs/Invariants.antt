use Rattle.std.proofs.Common.{◌≡◌, drop}
use Rattle.serde_json.specs.View.{items_view, view}
use Rattle.rb_log.specs.Asks.{given_in}
use Rattle.rb_runs.specs.Naming.{given_of}
use Rattle.rb_runs.proofs.GivenPairs.{behind}
use Rattle.rb_runs.proofs.naming.pairs.Given as goal

-- the pairs so far, in front of those that are left, are all pairs
abbrev pub invariant-loop-item : goal.invariant-loop-item
invariant-loop-item l =
    given_of (view l.value)
    ≡ behind l.given (given_in (items_view (drop l.item-index l.item-items)))
