-- Flows as the code holds them.
use Rattle.std.specs.Prelude.{List, map, ℕ}
use Rattle.rb_yaml.specs.declared.flow_scalars.FlowText as texts
use Rattle.rb_yaml.specs.declared.flow.FlowItem as items
use Rattle.rb_yaml.specs.declared.flow.FlowPair as pairs
use Rattle.rb_yaml.specs.declared.flow.FlowRead as reads
use Rattle.rb_yaml.specs.declared.flow.FlowTurn as turns
use Rattle.rb_yaml.specs.declared.flow.FlowTurn.TheVariants as kinds
use Rattle.rb_yaml.specs.FlowScalars.{FlowText}
use Rattle.rb_yaml.specs.Flow.{FlowItem, FlowRead, FlowTurn, closes, separates, junk, item}

abbrev pub text_view : texts.FlowText → FlowText
text_view t = record { text = t.text; good = t.good; rest = t.rest.now }

abbrev pub item_view : items.FlowItem → FlowItem
item_view i = record { key = i.key; text = i.text; good = i.good; rest = i.rest.now }

abbrev pub pair_view : pairs.FlowPair → List ℕ × List ℕ
pair_view p = (p.key, p.text)

abbrev pub read_view : reads.FlowRead → FlowRead
read_view r = record { items = map pair_view r.items.items; good = r.good; rest = r.rest.now }

abbrev pub turn_view : turns.FlowTurn → FlowTurn
turn_view (kinds.Closes rest) = closes rest.now
turn_view (kinds.Separates rest) = separates rest.now
turn_view (kinds.Junk rest) = junk rest.now
turn_view (kinds.Item i) = item (item_view i)
