-- The keys of each map of a document differ.
use Rattle.std.proofs.Common.{◌≡◌, ℕ, List, [], ◌∷◌, map, Ok, refl, sym, ap, subst}
use Rattle.std.specs.List.{AllByRecursion as Each}
use Rattle.rb_yaml.specs.Rows.{Row}
use Rattle.rb_yaml.specs.Tree.{YamlTree, Trees, Entries, scalar, seq, mapping, no_tree, tree, no_entry, entry, trees_of, entries_of}
use Rattle.rb_yaml.specs.Documents.{docs_of}
use Rattle.rb_yaml_laws.specs.Keys.{Differ}
use Rattle.rb_yaml_laws.specs.Says as says
use Rattle.rb_yaml_laws.specs.Says.{Alone}
use Rattle.rb_yaml_laws.specs.Nodes as nodes
use Rattle.rb_yaml_laws.specs.Nodes.{keys_of, Node, Collection, Block, Items, Item, MapEntries, Value, HasApartKeys, ItemsHaveApartKeys, EntriesHaveApartKeys}
use Rattle.rb_yaml_laws.specs.Docs as held
use Rattle.rb_yaml_laws.specs.Docs.{Bodies}
use Rattle.rb_yaml_laws.proofs.DocFacts.{read_is_meant}

-- ---- flows, whose values are scalars

scalars_apart : (line : ℕ) (items : List (List ℕ × List ℕ)) → ItemsHaveApartKeys (trees_of (map (λ item. scalar line item.1) items))
unfolding HasApartKeys
scalars_apart line [] = tt
scalars_apart line (item ∷ items) = (tt, scalars_apart line items)

values_apart : (line : ℕ) (items : List (List ℕ × List ℕ)) → EntriesHaveApartKeys (entries_of (map (λ item. (item.0, scalar line item.1)) items))
unfolding HasApartKeys
values_apart line [] = tt
values_apart line (item ∷ items) = (tt, values_apart line items)

flow_keys : (line : ℕ) (items : List (List ℕ × List ℕ)) → keys_of (entries_of (map (λ item. (item.0, scalar line item.1)) items)) ≡ map (λ item. item.0) items
flow_keys line [] = refl
flow_keys line (item ∷ items) = ap (λ keys. item.0 ∷ keys) (flow_keys line items)

alone_apart : {floor line : ℕ} {text : List ℕ} {rows : List Row} {value : YamlTree} → Alone floor line text rows value → HasApartKeys value
unfolding HasApartKeys
alone_apart (says.Alone.one s) = tt
alone_apart {line = line} (says.Alone.flow_sequence {items = items} f c b) = scalars_apart line items
alone_apart {line = line} (says.Alone.flow_map {items = items} f c b u) = (subst Differ (sym (flow_keys line items)) u, values_apart line items)

-- ---- one step

map_apart : (line : ℕ) (entries : Entries) → Differ (keys_of entries) → EntriesHaveApartKeys entries → HasApartKeys (mapping line entries)
unfolding HasApartKeys
map_apart line entries u es = (u, es)

seq_apart : (line : ℕ) (items : Trees) → ItemsHaveApartKeys items → HasApartKeys (seq line items)
unfolding HasApartKeys
seq_apart line items is = is

scalar_apart : (line : ℕ) (text : List ℕ) → HasApartKeys (scalar line text)
unfolding HasApartKeys
scalar_apart line text = tt

none_apart : ItemsHaveApartKeys no_tree
unfolding HasApartKeys
none_apart = tt

tree_apart : (value : YamlTree) (values : Trees) → HasApartKeys value → ItemsHaveApartKeys values → ItemsHaveApartKeys (tree value values)
unfolding HasApartKeys
tree_apart value values v vs = (v, vs)

no_entry_apart : EntriesHaveApartKeys no_entry
unfolding HasApartKeys
no_entry_apart = tt

entry_apart : (key : List ℕ) (value : YamlTree) (entries : Entries) → HasApartKeys value → EntriesHaveApartKeys entries → EntriesHaveApartKeys (entry key value entries)
unfolding HasApartKeys
entry_apart key value entries v es = (v, es)

-- ---- all together

mutual
  node_apart : {floor : ℕ} {head : Row} {rows : List Row} {value : YamlTree} → Node floor head rows value → HasApartKeys value
  node_apart (nodes.Node.collection c) = collection_apart c
  node_apart (nodes.Node.alone h a) = alone_apart a

  collection_apart : {head : Row} {rows : List Row} {value : YamlTree} → Collection head rows value → HasApartKeys value
  collection_apart (nodes.Collection.block_sequence {head = head} {items = items} is) = seq_apart head.number items (items_apart is)
  collection_apart (nodes.Collection.block_map {head = head} {entries = entries} es u) = map_apart head.number entries u (entries_apart es)

  block_apart : {floor line : ℕ} {rows : List Row} {value : YamlTree} → Block floor line rows value → HasApartKeys value
  block_apart (nodes.Block.nothing {line = line} h) = scalar_apart line []
  block_apart (nodes.Block.node before head behind h c t is) = node_apart is

  items_apart : {column : ℕ} {rows : List Row} {values : Trees} → Items column rows values → ItemsHaveApartKeys values
  items_apart nodes.Items.no_item = none_apart
  items_apart (nodes.Items.item {value = value} {values = values} first body rows s h w i more) = tree_apart value values (item_apart i) (items_apart more)

  item_apart : {column : ℕ} {first : Row} {body : List Row} {value : YamlTree} → Item column first body value → HasApartKeys value
  item_apart (nodes.Item.beneath n b) = block_apart b
  item_apart (nodes.Item.compact n t c) = collection_apart c
  item_apart (nodes.Item.alone_behind n s a) = alone_apart a

  entries_apart : {column : ℕ} {rows : List Row} {entries : Entries} → MapEntries column rows entries → EntriesHaveApartKeys entries
  entries_apart nodes.MapEntries.no_more = no_entry_apart
  entries_apart (nodes.MapEntries.keyed {key = key} {value = value} {entries = entries} first body rows s h k w v more) =
      entry_apart key value entries (value_apart v) (entries_apart more)

  value_apart : {column line : ℕ} {text : List ℕ} {rows : List Row} {value : YamlTree} → Value column line text rows value → HasApartKeys value
  value_apart (nodes.Value.at_column before first behind n h i is) = node_apart is
  value_apart (nodes.Value.deeper n w b) = block_apart b
  value_apart (nodes.Value.behind_key n w a) = alone_apart a

bodies_apart : {bodies : List (List Row)} {docs : List YamlTree} → Bodies bodies docs → Each HasApartKeys docs
bodies_apart held.Bodies.no_body = tt
bodies_apart (held.Bodies.passed h more) = bodies_apart more
bodies_apart (held.Bodies.document before head behind h c t is d more) = (node_apart is, bodies_apart more)

pub keys_differ : (bytes : List ℕ) (docs : List YamlTree) → docs_of bytes ≡ Ok docs → Each HasApartKeys docs
keys_differ bytes docs e = bodies_apart (read_is_meant bytes docs e).lines.held
