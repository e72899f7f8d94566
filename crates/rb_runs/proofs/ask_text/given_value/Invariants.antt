use Rattle.std.proofs.Common.{◌≡◌, map, take}
use Rattle.serde_json.specs.View.{view}
use Rattle.rb_log.specs.Asks.{pair_data}
use Rattle.rb_runs.proofs.ask_text.given_value.Given as goal

-- the values of what is given so far
abbrev pub invariant-loop-one : goal.invariant-loop-one
invariant-loop-one l = map view l.values.items ≡ map pair_data (take l.one-index l.given)
