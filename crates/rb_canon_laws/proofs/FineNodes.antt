-- What was read can be held again.
use Rattle.std.proofs.Common.{◌≡◌, ℕ, true, nat_eq, List, [], ◌∷◌, drop, map, arith}
use Rattle.std.proofs.lemmas.Bool.{eqb-true, and_parts}
use Rattle.std.proofs.lemmas.Str.{IsUtf8-from_is_utf8}
use Rattle.std.specs.List.{AllByRecursion as Each}
use Rattle.rb_yaml.specs.Rows.{Row}
use Rattle.rb_yaml.specs.Signs.{begins_item, ends_sign}
use Rattle.rb_yaml.specs.Line.{behind_item}
use Rattle.rb_yaml.specs.Tree.{YamlTree, Trees, Entries, scalar, trees_of, entries_of}
use Rattle.rb_yaml_laws.specs.Says as says
use Rattle.rb_yaml_laws.specs.Says.{Alone}
use Rattle.rb_yaml_laws.specs.Nodes as nodes
use Rattle.rb_yaml_laws.specs.Nodes.{Node, Collection, Block, Items, Item, MapEntries, Value}
use Rattle.rb_yaml_laws.specs.Docs as held
use Rattle.rb_yaml_laws.specs.Docs.{Parted, Bodies, Docs}
use Rattle.rb_yaml_laws.proofs.RowFacts.{each_left, each_right}
use Rattle.rb_yaml_laws.proofs.DocFacts.{read_is_meant}
use Rattle.rb_canon_laws.specs.Writable.{TreeIsWritable, TreesAreWritable, EntriesAreWritable}
use Rattle.rb_canon_laws.specs.Laws.{ReadIsWritable}
use Rattle.rb_canon_laws.proofs.Fine.{Fine, fine_none, fine_rest, fine_past}
use Rattle.rb_canon_laws.proofs.FineRows.{RowFine, fine_writable, text_rows_fine}
use Rattle.rb_canon_laws.proofs.FineTexts.{says_fine, key_fine, ItemFine, in_flow_fine}

-- ---- what stands alone

flow_seq_fine : (line : ℕ) (items : List (List ℕ × List ℕ)) → Each ItemFine items → TreesAreWritable (trees_of (map (λ item. scalar line item.1) items))
flow_seq_fine line [] h = tt
flow_seq_fine line (item ∷ items) h = (fine_writable item.1 h.0.1, flow_seq_fine line items h.1)

flow_map_fine : (line : ℕ) (items : List (List ℕ × List ℕ)) → Each ItemFine items → EntriesAreWritable (entries_of (map (λ item. (item.0, scalar line item.1)) items))
flow_map_fine line [] h = tt
flow_map_fine line (item ∷ items) h = (fine_writable item.0 h.0.0, fine_writable item.1 h.0.1, flow_map_fine line items h.1)

alone_fine : {floor line : ℕ} {text : List ℕ} {rows : List Row} {value : YamlTree} → Alone floor line text rows value → Fine text → Each RowFine rows → TreeIsWritable value
alone_fine (says.Alone.one {said = said} s) f r = fine_writable said (says_fine s f r)
alone_fine {line = line} (says.Alone.flow_sequence {text = text} {items = items} i c b) f r = flow_seq_fine line items (in_flow_fine (omega arith) i (fine_rest 91 text (omega arith) f))
alone_fine {line = line} (says.Alone.flow_map {text = text} {items = items} i c b d) f r = flow_map_fine line items (in_flow_fine (omega arith) i (fine_rest 123 text (omega arith) f))

-- ---- rows

behind_by : (text : List ℕ) → begins_item text ≡ true → Fine text → Fine (drop 1 text)
behind_by [] h f = f
behind_by (b ∷ bs) h f = let same = eqb-true b 45 (and_parts (nat_eq b 45) (ends_sign bs) h).0 in fine_rest b bs (omega arith) f

behind_fine : (first : Row) → begins_item first.text ≡ true → RowFine first → RowFine (behind_item first)
behind_fine first h f = fine_past (drop 1 first.text) (behind_by first.text h f)

mutual
  node_fine : {floor : ℕ} {head : Row} {rows : List Row} {value : YamlTree} → Node floor head rows value → RowFine head → Each RowFine rows → TreeIsWritable value
  node_fine (nodes.Node.collection c) h r = collection_fine c h r
  node_fine (nodes.Node.alone s a) h r = alone_fine a h r

  collection_fine : {head : Row} {rows : List Row} {value : YamlTree} → Collection head rows value → RowFine head → Each RowFine rows → TreeIsWritable value
  collection_fine (nodes.Collection.block_sequence i) h r = items_fine i (h, r)
  collection_fine (nodes.Collection.block_map e d) h r = entries_fine e (h, r)

  block_fine : {floor line : ℕ} {rows : List Row} {value : YamlTree} → Block floor line rows value → Each RowFine rows → TreeIsWritable value
  block_fine (nodes.Block.nothing b) r = fine_writable [] fine_none
  block_fine (nodes.Block.node before head behind b c t n) r = let mine = each_right RowFine before (head ∷ behind) r in node_fine n mine.0 mine.1

  items_fine : {column : ℕ} {rows : List Row} {items : Trees} → Items column rows items → Each RowFine rows → TreesAreWritable items
  items_fine nodes.Items.no_item r = tt
  items_fine (nodes.Items.item first body rows s b w i more) r = (item_fine i b r.0 (each_left RowFine body rows r.1), items_fine more (each_right RowFine body rows r.1))

  item_fine : {column : ℕ} {first : Row} {body : List Row} {value : YamlTree} → Item column first body value → begins_item first.text ≡ true → RowFine first → Each RowFine body → TreeIsWritable value
  item_fine (nodes.Item.beneath n b) s h r = block_fine b r
  item_fine (nodes.Item.compact {first = first} n t c) s h r = collection_fine c (behind_fine first s h) r
  item_fine (nodes.Item.alone_behind {first = first} n p a) s h r = alone_fine a (behind_fine first s h) r

  entries_fine : {column : ℕ} {rows : List Row} {entries : Entries} → MapEntries column rows entries → Each RowFine rows → EntriesAreWritable entries
  entries_fine nodes.MapEntries.no_more r = tt
  entries_fine (nodes.MapEntries.keyed {key = key} {behind = behind} first body rows s b k w v more) r =
      let both = key_fine k r.0 in
      (fine_writable key both.0, value_fine v (fine_past behind both.1) (each_left RowFine body rows r.1), entries_fine more (each_right RowFine body rows r.1))

  value_fine : {column line : ℕ} {text : List ℕ} {rows : List Row} {value : YamlTree} → Value column line text rows value → Fine text → Each RowFine rows → TreeIsWritable value
  value_fine (nodes.Value.at_column before first behind n b i nd) f r = let mine = each_right RowFine before (first ∷ behind) r in node_fine nd mine.0 mine.1
  value_fine (nodes.Value.deeper n w b) f r = block_fine b r
  value_fine (nodes.Value.behind_key n w a) f r = alone_fine a f r

-- ---- documents

parted_fine : {rows : List Row} {bodies : List (List Row)} → Parted rows bodies → Each RowFine rows → Each (Each RowFine) bodies
parted_fine (held.Parted.last h) r = (r, tt)
parted_fine (held.Parted.more body mark rows h i t c p) r = (each_left RowFine body (mark ∷ rows) r, parted_fine p (each_right RowFine body (mark ∷ rows) r).1)

bodies_fine : {bodies : List (List Row)} {docs : List YamlTree} → Bodies bodies docs → Each (Each RowFine) bodies → Each TreeIsWritable docs
bodies_fine held.Bodies.no_body r = tt
bodies_fine (held.Bodies.passed b more) r = bodies_fine more r.1
bodies_fine (held.Bodies.document before head behind b c t n d more) r =
    let mine = each_right RowFine before (head ∷ behind) r.0 in
    (node_fine n mine.0 mine.1, bodies_fine more r.1)

docs_fine : (bytes : List ℕ) (docs : List YamlTree) → Docs bytes docs → Each TreeIsWritable docs
docs_fine bytes docs d = bodies_fine d.lines.held (parted_fine d.lines.parted (text_rows_fine bytes (IsUtf8-from_is_utf8 bytes d.encoded) d.lines.no_control))

pub read_is_writable : ReadIsWritable
read_is_writable bytes docs e = docs_fine bytes docs (read_is_meant bytes docs e)
