use Rattle.std.proofs.Common.{◌≡◌, List, ℕ, [], drop, map}
use Rattle.rb_causes.specs.SeenTexts.{HasSeen}
use Rattle.rb_causes.specs.Texts.{are_new}
use Rattle.rb_yaml.specs.FlowView.{pair_view}
use Rattle.rb_yaml.proofs.flow_values.keys_differ.Given as goal

-- the set holds the keys before, and those that are left differ after them as all do
abbrev pub invariant-loop-item : goal.invariant-loop-item
invariant-loop-item l =
    (keys : List (List ℕ)) × HasSeen l.seen keys
    × (are_new keys (map (λ item. item.0) (map pair_view (drop l.item-index l.items)))
    ≡ are_new [] (map (λ item. item.0) (map pair_view l.items)))
