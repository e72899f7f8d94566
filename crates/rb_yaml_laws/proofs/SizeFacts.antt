-- A value has no more values in it than its rows weigh.
use Rattle.std.proofs.Common.{◌≡◌, ◌≤◌, ℕ, suc, ◌+◌, ◌-◌, true, List, [], ◌∷◌, length, Ok, refl, arith}
use Rattle.rb_yaml.specs.Rows.{Row}
use Rattle.rb_yaml.specs.Signs.{begins_item}
use Rattle.rb_yaml.specs.Tree.{YamlTree, Trees, Entries, scalar, seq, mapping, no_tree, tree, no_entry, entry}
use Rattle.rb_yaml.specs.TreeSizes.{tree_size, items_size, entries_size, docs_size}
use Rattle.rb_yaml.specs.Documents.{docs_of}
use Rattle.rb_yaml_laws.specs.Nodes as nodes
use Rattle.rb_yaml_laws.specs.Nodes.{Node, Collection, Block, Items, Item, MapEntries, Value}
use Rattle.rb_yaml_laws.specs.Docs as held
use Rattle.rb_yaml_laws.specs.Docs.{Parted, Bodies, Docs}
use Rattle.rb_yaml_laws.proofs.BlankFacts.{past_le}
use Rattle.rb_yaml_laws.proofs.DeepFacts.{behind_shorter}
use Rattle.rb_yaml_laws.proofs.DocFacts.{read_is_meant}
use Rattle.rb_yaml_laws.proofs.SizeRows.{weight, weight_append, rows_weight}
use Rattle.rb_yaml_laws.proofs.SizeTexts.{alone_size, key_leaves}

-- ---- one step

scalar_size : (line : ℕ) (text : List ℕ) → tree_size (scalar line text) ≡ 1
unfolding tree_size
scalar_size line text = refl

sequence_size : (line : ℕ) (items : Trees) → tree_size (seq line items) ≡ suc (items_size items)
unfolding tree_size
sequence_size line items = refl

map_size : (line : ℕ) (entries : Entries) → tree_size (mapping line entries) ≡ suc (entries_size entries)
unfolding tree_size
map_size line entries = refl

no_item_size : items_size no_tree ≡ 0
unfolding tree_size
no_item_size = refl

item_size : (value : YamlTree) (values : Trees) → items_size (tree value values) ≡ tree_size value + items_size values
unfolding tree_size
item_size value values = refl

no_entry_size : entries_size no_entry ≡ 0
unfolding tree_size
no_entry_size = refl

entry_size : (key : List ℕ) (value : YamlTree) (entries : Entries) → entries_size (entry key value entries) ≡ tree_size value + entries_size entries
unfolding tree_size
entry_size key value entries = refl

-- ---- all together

mutual
  node_le : {floor : ℕ} {head : Row} {rows : List Row} {value : YamlTree} → Node floor head rows value → tree_size value ≤ weight (head ∷ rows)
  node_le (nodes.Node.collection c) = collection_le c
  node_le (nodes.Node.alone h a) = omega (arith, alone_size a)

  collection_le : {head : Row} {rows : List Row} {value : YamlTree} → Collection head rows value → tree_size value ≤ weight (head ∷ rows)
  collection_le (nodes.Collection.block_sequence {head = head} {items = items} is) = omega (arith, sequence_size head.number items, items_le is)
  collection_le (nodes.Collection.block_map {head = head} {entries = entries} es u) = omega (arith, map_size head.number entries, entries_le es)

  block_le : {floor line : ℕ} {rows : List Row} {value : YamlTree} → Block floor line rows value → tree_size value ≤ suc (weight rows)
  block_le (nodes.Block.nothing {line = line} h) = omega (arith, scalar_size line [])
  block_le (nodes.Block.node before head behind h c t is) = omega (arith, weight_append before (head ∷ behind), node_le is)

  -- less than the rows weigh, where there is one
  items_le : {column : ℕ} {rows : List Row} {values : Trees} → Items column rows values → items_size values ≤ weight rows - 1
  items_le nodes.Items.no_item = omega (arith, no_item_size)
  items_le (nodes.Items.item {value = value} {values = values} first body rows s h w i more) =
      omega (arith, item_size value values, weight_append body rows, item_le h i, items_le more)

  item_le : {column : ℕ} {first : Row} {body : List Row} {value : YamlTree} → begins_item first.text ≡ true → Item column first body value → tree_size value ≤ length first.text + weight body
  item_le h (nodes.Item.beneath {first = first} n b) = omega (arith, behind_shorter first h, block_le b)
  item_le h (nodes.Item.compact {first = first} n t c) = omega (arith, behind_shorter first h, collection_le c)
  item_le h (nodes.Item.alone_behind {first = first} n s a) = omega (arith, behind_shorter first h, alone_size a)

  -- less than the rows weigh, where there is one
  entries_le : {column : ℕ} {rows : List Row} {entries : Entries} → MapEntries column rows entries → entries_size entries ≤ weight rows - 1
  entries_le nodes.MapEntries.no_more = omega (arith, no_entry_size)
  entries_le (nodes.MapEntries.keyed {key = key} {behind = behind} {value = value} {entries = entries} first body rows s h k w v more) =
      omega (arith, entry_size key value entries, weight_append body rows, key_leaves k, past_le behind, value_le v, entries_le more)

  value_le : {column line : ℕ} {text : List ℕ} {rows : List Row} {value : YamlTree} → Value column line text rows value → tree_size value ≤ suc (length text) + weight rows
  value_le (nodes.Value.at_column before first behind n h i is) = omega (arith, weight_append before (first ∷ behind), node_le is)
  value_le (nodes.Value.deeper n w b) = omega (arith, block_le b)
  value_le (nodes.Value.behind_key n w a) = omega (arith, alone_size a)

-- ---- documents

-- what all bodies weigh together
abbrev bodies_weight : List (List Row) → ℕ
bodies_weight [] = 0
bodies_weight (body ∷ bodies) = weight body + bodies_weight bodies

parted_le : {rows : List Row} {bodies : List (List Row)} → Parted rows bodies → bodies_weight bodies ≤ weight rows
parted_le (held.Parted.last h) = omega arith
parted_le (held.Parted.more body mark rows h z t c others) = omega (arith, weight_append body (mark ∷ rows), parted_le others)

bodies_le : {bodies : List (List Row)} {docs : List YamlTree} → Bodies bodies docs → docs_size docs ≤ bodies_weight bodies
bodies_le held.Bodies.no_body = omega arith
bodies_le (held.Bodies.passed h more) = omega (arith, bodies_le more)
bodies_le (held.Bodies.document before head behind h c t is d more) = omega (arith, weight_append before (head ∷ behind), node_le is, bodies_le more)

docs_le : (bytes : List ℕ) (docs : List YamlTree) → Docs bytes docs → docs_size docs ≤ length bytes + 1
docs_le bytes docs d = omega (arith, bodies_le d.lines.held, parted_le d.lines.parted, rows_weight bytes)

pub size_is_bounded : (bytes : List ℕ) (docs : List YamlTree) → docs_of bytes ≡ Ok docs → docs_size docs ≤ length bytes + 1
size_is_bounded bytes docs e = docs_le bytes docs (read_is_meant bytes docs e)
