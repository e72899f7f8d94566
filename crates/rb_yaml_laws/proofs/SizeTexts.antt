-- What flows and keys leave of their row: each item and each key takes a byte at least.
use Rattle.std.proofs.Common.{◌≡◌, ◌≤◌, ◌<◌, ℕ, suc, Bool, List, [], ◌∷◌, length, map, refl, ap, length-append, length-drop, arith}
use Rattle.rb_causes.specs.Signs.{colon, comma}
use Rattle.rb_yaml.specs.Rows.{Row, past_blanks}
use Rattle.rb_yaml.specs.Tree.{YamlTree, scalar, trees_of, entries_of}
use Rattle.rb_yaml.specs.TreeSizes.{tree_size, items_size, entries_size}
use Rattle.rb_yaml_laws.specs.Quotes as quotes
use Rattle.rb_yaml_laws.specs.Quotes.{Single, Double}
use Rattle.rb_yaml_laws.specs.InFlow as flows
use Rattle.rb_yaml_laws.specs.InFlow.{FlowScalar, IsFlowItem, InFlow}
use Rattle.rb_yaml_laws.specs.Keys as keys
use Rattle.rb_yaml_laws.specs.Keys.{Key}
use Rattle.rb_yaml_laws.specs.Says as says
use Rattle.rb_yaml_laws.specs.Says.{Alone}
use Rattle.rb_yaml_laws.proofs.BlankFacts.{past_le, past_shorter}

-- ---- quoted texts

single_leaves : {text said rest : List ℕ} → Single text said rest → length rest ≤ length text
single_leaves (quotes.Single.closing h) = omega arith
single_leaves (quotes.Single.quote s) = omega (arith, single_leaves s)
single_leaves (quotes.Single.other n s) = omega (arith, single_leaves s)

double_leaves : {text said rest : List ℕ} → Double text said rest → length rest ≤ length text
double_leaves quotes.Double.closing = omega arith
double_leaves (quotes.Double.escape e d) = omega (arith, double_leaves d)
double_leaves (quotes.Double.other n m d) = omega (arith, double_leaves d)

-- ---- flows

flow_scalar_leaves : {key : Bool} {close : ℕ} {text said rest : List ℕ} → FlowScalar key close text said rest → length rest ≤ length text
flow_scalar_leaves (flows.FlowScalar.single s) = omega (arith, single_leaves s)
flow_scalar_leaves (flows.FlowScalar.double d) = omega (arith, double_leaves d)
flow_scalar_leaves (flows.FlowScalar.plain {text = text} {word = word} b w r i) = omega (arith, ap length r, length-drop (length word) text)

flow_item_leaves : {close : ℕ} {text key said rest : List ℕ} → IsFlowItem close text key said rest → length rest ≤ length text
flow_item_leaves (flows.IsFlowItem.in_sequence s) = flow_scalar_leaves s
flow_item_leaves (flows.IsFlowItem.in_map {left = left} {behind = behind} k p c s) =
    omega (arith, flow_scalar_leaves k, past_shorter left colon behind p, past_le behind, flow_scalar_leaves s)

-- behind the blanks before an item, the item and the blanks behind it stands this byte
item_and_sign : {close : ℕ} {key said behind : List ℕ} (text : List ℕ) (sign : ℕ) (next : List ℕ) → IsFlowItem close (past_blanks text) key said behind → past_blanks behind ≡ sign ∷ next → length next < length text
item_and_sign {behind = behind} text sign next i p = omega (arith, past_le text, flow_item_leaves i, past_shorter behind sign next p)

flow_items_le : {close : ℕ} {text rest : List ℕ} {items : List (List ℕ × List ℕ)} → InFlow close text items rest → length items ≤ length text
flow_items_le (flows.InFlow.closes p) = omega arith
flow_items_le {close = close} {rest = rest} (flows.InFlow.last {text = text} i p) = omega (arith, item_and_sign text close rest i p)
flow_items_le (flows.InFlow.more {text = text} {next = next} i p others) = omega (arith, item_and_sign text comma next i p, flow_items_le others)

items_are_scalars : (line : ℕ) (items : List (List ℕ × List ℕ)) → items_size (trees_of (map (λ item. scalar line item.1) items)) ≡ length items
unfolding tree_size
items_are_scalars line [] = refl
items_are_scalars line (item ∷ items) = omega (arith, items_are_scalars line items)

values_are_scalars : (line : ℕ) (items : List (List ℕ × List ℕ)) → entries_size (entries_of (map (λ item. (item.0, scalar line item.1)) items)) ≡ length items
unfolding tree_size
values_are_scalars line [] = refl
values_are_scalars line (item ∷ items) = omega (arith, values_are_scalars line items)

-- a scalar is one value, and a flow has one for its sign and one for each item
pub alone_size : {floor line : ℕ} {text : List ℕ} {rows : List Row} {value : YamlTree} → Alone floor line text rows value → tree_size value ≤ suc (length text)
unfolding tree_size
alone_size (says.Alone.one s) = omega arith
alone_size {line = line} (says.Alone.flow_sequence {items = items} f c b) = omega (arith, items_are_scalars line items, flow_items_le f)
alone_size {line = line} (says.Alone.flow_map {items = items} f c b u) = omega (arith, values_are_scalars line items, flow_items_le f)

-- ---- keys

-- behind the key of a text less stands than the text
pub key_leaves : {text key behind : List ℕ} → Key text key behind → length behind < length text
key_leaves (keys.Key.single {rest = rest} {behind = behind} s p e) = omega (arith, single_leaves s, past_shorter rest colon behind p)
key_leaves (keys.Key.double {rest = rest} {behind = behind} d p e) = omega (arith, double_leaves d, past_shorter rest colon behind p)
key_leaves (keys.Key.plain {behind = behind} first front is o f k) = omega (arith, ap length is, length-append front (colon ∷ behind))
