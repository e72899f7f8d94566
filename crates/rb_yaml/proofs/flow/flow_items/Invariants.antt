use Rattle.std.proofs.Common.{◌≡◌, ◌+◌, ◌-◌, length, map, false}
use denote.Text.{Utf8}
use denote.Shadow.{shadow}
use Rattle.rb_yaml.specs.Flow.{flow_items}
use Rattle.rb_yaml.specs.FlowView.{pair_view}
use Rattle.rb_yaml.proofs.FlowTurns.{with_items}
use Rattle.rb_yaml.proofs.flow.flow_items.Given as goal

-- the items so far and those that are left are all
abbrev pub invariant-loop-turn : goal.invariant-loop-turn
invariant-loop-turn l = record {
  text : shadow (Utf8 l.rest);
  same : with_items (map pair_view l.items.items) l.good (flow_items (length l.text + 2 - l._turn) l.close l.after l.rest) ≡ flow_items (length l.text + 2) l.close false l.text;
}
