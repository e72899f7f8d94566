-- Nodes: what is meant is read.
use Rattle.std.proofs.Common.{◌≡◌, ◌⊎◌, inl, inr, ◌≤◌, ℕ, zero, suc, ◌-◌, max, Bool, true, false, not, cond, ◌&&◌, is_some, List, [], ◌∷◌, ◌++◌, Some, Ok, refl, sym, ap, ◌∙◌, arith}
use Rattle.std.proofs.lemmas.Bool.{eq-eqb, and_parts, or_parts, not-true}
use Rattle.std.specs.List.{AllByRecursion as Each}
use Rattle.rb_causes.specs.Texts.{are_new, has_text}
use Rattle.rb_yaml.specs.Rows.{Row, past_blanks, is_content, is_tabbed}
use Rattle.rb_yaml.specs.Signs.{begins_item, is_nothing}
use Rattle.rb_yaml.specs.Line.{behind_item, tab_behind}
use Rattle.rb_yaml.specs.Edges.{begins_part, is_item_at, begins_entry}
use Rattle.rb_yaml.specs.Keys.{key_part, begins_with_key, begins_collection}
use Rattle.rb_yaml.specs.Tree.{YamlTree, Trees, Entries, scalar, seq, mapping, no_tree, tree, no_entry, entry, trees_of, entries_of}
use Rattle.rb_yaml.specs.Alone.{Reader, alone}
use Rattle.rb_yaml.specs.Nodes.{block, item_of, all_items, seq_of, map_of, value_after_key, entry_of, all_entries, node}
use Rattle.rb_yaml_laws.specs.Bare.{Bare, IsWithin, IsBeneath}
use Rattle.rb_yaml_laws.specs.Nodes as nodes
use Rattle.rb_yaml_laws.specs.Nodes.{StandsAt, keys_of, Node, Collection, Block, Items, Item, MapEntries, Value, depth, items_depth, entries_depth}
use Rattle.rb_yaml_laws.proofs.RowFacts.{each_weak, bare_none, first_at}
use Rattle.rb_yaml_laws.proofs.AloneFacts.{alone_begins}
use Rattle.rb_yaml_laws.proofs.KeyFacts.{key_read}
use Rattle.rb_yaml_laws.proofs.DifferFacts.{differ_read}
use Rattle.rb_yaml_laws.proofs.SaysFacts.{row, seq_depth, map_depth, alone_read}
use Rattle.rb_yaml_laws.proofs.CutFacts.{cut, Starts, cut_at, onward_none, onward_at, until_at, within_no_part, stands_part, within_no_item, stands_entry, beneath_no_entry}

-- ---- the values as lists

abbrev pub list_of : Trees → List YamlTree
list_of no_tree = []
list_of (tree value values) = value ∷ list_of values

pub trees_list : (values : Trees) → trees_of (list_of values) ≡ values
trees_list no_tree = refl
trees_list (tree value values) = ap (tree value) (trees_list values)

abbrev pub pairs_of : Entries → List (List ℕ × YamlTree)
pairs_of no_entry = []
pairs_of (entry key value entries) = (key, value) ∷ pairs_of entries

pub entries_list : (entries : Entries) → entries_of (pairs_of entries) ≡ entries
entries_list no_entry = refl
entries_list (entry key value entries) = ap (entry key value) (entries_list entries)

-- ---- how deep a part is

max_l : (a b n : ℕ) → max a b ≤ n → a ≤ n
max_l a b n h = grind arith

max_r : (a b n : ℕ) → max a b ≤ n → b ≤ n
max_r a b n h = grind arith

tree_first : (value : YamlTree) (values : Trees) (n : ℕ) → items_depth (tree value values) ≤ n → depth value ≤ n
unfolding depth
tree_first value values n h = max_l (depth value) (items_depth values) n h

tree_rest : (value : YamlTree) (values : Trees) (n : ℕ) → items_depth (tree value values) ≤ n → items_depth values ≤ n
unfolding depth
tree_rest value values n h = max_r (depth value) (items_depth values) n h

entry_first : (key : List ℕ) (value : YamlTree) (entries : Entries) (n : ℕ) → entries_depth (entry key value entries) ≤ n → depth value ≤ n
unfolding depth
entry_first key value entries n h = max_l (depth value) (entries_depth entries) n h

entry_rest : (key : List ℕ) (value : YamlTree) (entries : Entries) (n : ℕ) → entries_depth (entry key value entries) ≤ n → entries_depth entries ≤ n
unfolding depth
entry_rest key value entries n h = max_r (depth value) (entries_depth entries) n h

-- ---- one step of each reader

some_level : (left n d : ℕ) → d ≡ suc n → d ≤ left → left ≡ suc (left - 1)
some_level left n d e h = omega (arith, e, h)

less_level : (left n d : ℕ) → d ≡ suc n → d ≤ left → n ≤ left - 1
less_level left n d e h = omega (arith, e, h)

sequence_at : (left floor : ℕ) (head : Row) (rows : List Row) (items : Trees) → begins_item head.text ≡ true → all_items (item_of (node left) head.indent) (cut (begins_part head.indent) (head ∷ rows)) ≡ Ok (list_of items) →
    node (suc left) floor head rows ≡ Ok (seq head.number items)
sequence_at left floor head rows items h e = rw (h, e) (ap (λ xs. Ok (seq head.number xs)) (trees_list items))

map_at : (left floor : ℕ) (head : Row) (rows : List Row) (entries : Entries) → begins_item head.text ≡ false → begins_with_key head.text ≡ true →
    all_entries (entry_of left (node left) head.indent) [] (cut (begins_entry head.indent) (head ∷ rows)) ≡ Ok (pairs_of entries) → node (suc left) floor head rows ≡ Ok (mapping head.number entries)
map_at left floor head rows entries h k e = rw (h, k, e) (ap (λ xs. Ok (mapping head.number xs)) (entries_list entries))

alone_at : (left floor : ℕ) (head : Row) (rows : List Row) (value : YamlTree) → begins_collection head.text ≡ false → alone left floor head rows ≡ Ok value → node left floor head rows ≡ Ok value
alone_at zero floor head rows value h e = rw h e
alone_at (suc left) floor head rows value h e =
    ap (λ t. cond t (seq_of (node left) head rows) (cond (begins_with_key head.text) (map_of left (node left) head rows) (alone (suc left) floor head rows))) ((or_parts (begins_item head.text) (begins_with_key head.text) h).0)
    ∙ ap (λ t. cond t (map_of left (node left) head rows) (alone (suc left) floor head rows)) ((or_parts (begins_item head.text) (begins_with_key head.text) h).1) ∙ e

nothing_at : (below : Reader) (floor line : ℕ) (rows : List Row) → Bare rows → block below floor line rows ≡ Ok (scalar line [])
nothing_at below floor line rows h = rw (bare_none rows h) refl

block_at : (below : Reader) (floor line : ℕ) (before : List Row) (head : Row) (behind : List Row) (value : YamlTree) → Bare before → is_content head ≡ true → is_tabbed head ≡ false → below floor head behind ≡ Ok value →
    block below floor line (before ++ head ∷ behind) ≡ Ok value
block_at below floor line before head behind value h c t e = rw (first_at before head behind h c, t) e

item_below : (below : Reader) (column : ℕ) (first : Row) (body : List Row) (value : YamlTree) → StandsAt column first → begins_item first.text ≡ true → is_nothing (behind_item first).text ≡ true →
    block below (suc column) first.number body ≡ Ok value → item_of below column first body ≡ Ok value
item_below below column first body value s h n e =
    rw (h, s.1, eq-eqb first.indent column s.2, n) (ap (λ c. block below (suc c) first.number body) s.2 ∙ e)

item_behind : (c : Bool) (below : Reader) (column : ℕ) (first : Row) (body : List Row) (value : YamlTree) → StandsAt column first → begins_item first.text ≡ true → is_nothing (behind_item first).text ≡ false →
    (tab_behind first && begins_collection (behind_item first).text) ≡ false → below (suc column) (behind_item first) body ≡ Ok value → item_of below column first body ≡ Ok value
item_behind c below column first body value s h n t e =
    rw (h, s.1, eq-eqb first.indent column s.2, n, t) (ap (λ c. below (suc c) (behind_item first) body) s.2 ∙ e)

neither_tab : (a b : Bool) → (a ≡ false) ⊎ (b ≡ false) → (a && b) ≡ false
neither_tab false b h = refl
neither_tab true b (inl h) = absurd (cc)
neither_tab true b (inr h) = h

items_at : (read : Row → List Row → _) (first : Row) (body : List Row) (parts : List (Row × List Row)) (value : YamlTree) (values : List YamlTree) → read first body ≡ Ok value → all_items read parts ≡ Ok values →
    all_items read ((first, body) ∷ parts) ≡ Ok (value ∷ values)
items_at read first body parts value values h e = rw (h, e) refl

items_cut : (below : Reader) (column : ℕ) (first : Row) (body rows : List Row) (value : YamlTree) (values : List YamlTree) → Each (IsWithin column) body → Starts (begins_part column) rows →
    item_of below column first body ≡ Ok value → all_items (item_of below column) (cut (begins_part column) rows) ≡ Ok values →
    all_items (item_of below column) (cut (begins_part column) (first ∷ body ++ rows)) ≡ Ok (value ∷ values)
items_cut below column first body rows value values h s e k =
    rw (cut_at (begins_part column) first [] body rows (each_weak (IsWithin column) (λ r. begins_part column r ≡ false) (within_no_part column) body h) s)
    (items_at (item_of below column) first body (cut (begins_part column) rows) value values e k)

entry_read : (left : ℕ) (below : Reader) (column : ℕ) (seen : List (List ℕ)) (first : Row) (body : List Row) (key behind : List ℕ) (value : YamlTree) → StandsAt column first →
    key_part first.text ≡ Some (record { key = Ok key; behind = behind }) → has_text seen key ≡ false → value_after_key left below column first.number (past_blanks behind) body ≡ Ok value →
    entry_of left below column seen first body ≡ Ok (key, value)
entry_read left below column seen first body key behind value s k d e =
    let at = ap (λ c. value_after_key left below c first.number (past_blanks behind) body) s.2 ∙ e in
    rw (k, s.1, eq-eqb first.indent column s.2, d, at) refl

entries_cut : (left : ℕ) (below : Reader) (column : ℕ) (seen : List (List ℕ)) (first : Row) (body rows : List Row) (key : List ℕ) (value : YamlTree) (entries : List (List ℕ × YamlTree)) →
    Each (IsBeneath column) body → Starts (begins_entry column) rows → entry_of left below column seen first body ≡ Ok (key, value) →
    all_entries (entry_of left below column) (seen ++ key ∷ []) (cut (begins_entry column) rows) ≡ Ok entries →
    all_entries (entry_of left below column) seen (cut (begins_entry column) (first ∷ body ++ rows)) ≡ Ok ((key, value) ∷ entries)
entries_cut left below column seen first body rows key value entries h s e k =
    rw (cut_at (begins_entry column) first [] body rows (each_weak (IsBeneath column) (λ r. begins_entry column r ≡ false) (beneath_no_entry column) body h) s, e, k) refl

bare_no_item_at : (column : ℕ) (before : List Row) → Bare before → Each (λ r. is_item_at column r ≡ false) before
bare_no_item_at column before h = each_weak (λ r. is_content r ≡ false) (λ r. is_item_at column r ≡ false) (λ r k. within_no_item column r (inl k)) before h

value_own : (left : ℕ) (below : Reader) (column line : ℕ) (text : List ℕ) (before : List Row) (first : Row) (behind : List Row) (value : YamlTree) → is_nothing text ≡ true → Bare before → is_item_at column first ≡ true →
    below column first behind ≡ Ok value → value_after_key left below column line text (before ++ first ∷ behind) ≡ Ok value
value_own left below column line text before first behind value n h i e =
    let no_item = bare_no_item_at column before h in
    rw (onward_at (is_item_at column) before first behind no_item i, until_at (is_item_at column) before first behind no_item i, n, bare_none before h) e

each_no_item : (column : ℕ) (rows : List Row) → Each (IsWithin column) rows → Each (λ r. is_item_at column r ≡ false) rows
each_no_item column rows h = each_weak (IsWithin column) (λ r. is_item_at column r ≡ false) (within_no_item column) rows h

value_deeper : (left : ℕ) (below : Reader) (column line : ℕ) (text : List ℕ) (rows : List Row) (value : YamlTree) → is_nothing text ≡ true → Each (IsWithin column) rows →
    block below (suc column) line rows ≡ Ok value → value_after_key left below column line text rows ≡ Ok value
value_deeper left below column line text rows value n h e = rw (onward_none (is_item_at column) rows (each_no_item column rows h), n) e

value_behind : (left : ℕ) (below : Reader) (column line : ℕ) (text : List ℕ) (rows : List Row) (value : YamlTree) → is_nothing text ≡ false → Each (IsWithin column) rows →
    alone left (suc column) (row line zero text) rows ≡ Ok value → value_after_key left below column line text rows ≡ Ok value
value_behind left below column line text rows value n h e = rw (onward_none (is_item_at column) rows (each_no_item column rows h), n) e

items_start : {column : ℕ} {rows : List Row} {values : Trees} → Items column rows values → Starts (begins_part column) rows
items_start nodes.Items.no_item = tt
items_start {column} (nodes.Items.item first body rows s h w i more) = stands_part column first s

entries_start : {column : ℕ} {rows : List Row} {entries : Entries} → MapEntries column rows entries → Starts (begins_entry column) rows
entries_start nodes.MapEntries.no_more = tt
entries_start {column} (nodes.MapEntries.keyed first body rows s h k w v more) = stands_entry column first s h

differ_first : (seen : List (List ℕ)) (key : List ℕ) (keys : List (List ℕ)) → are_new seen (key ∷ keys) ≡ true → has_text seen key ≡ false
differ_first seen key keys h = not-true (has_text seen key) ((and_parts (not (has_text seen key)) (are_new (seen ++ key ∷ []) keys) h).0)

differ_rest : (seen : List (List ℕ)) (key : List ℕ) (keys : List (List ℕ)) → are_new seen (key ∷ keys) ≡ true → are_new (seen ++ key ∷ []) keys ≡ true
differ_rest seen key keys h = (and_parts (not (has_text seen key)) (are_new (seen ++ key ∷ []) keys) h).1

sequence_read : (left floor : ℕ) (head : Row) (rows : List Row) (items : Trees) → begins_item head.text ≡ true → depth (seq head.number items) ≤ left →
    (items_depth items ≤ left - 1 → all_items (item_of (node (left - 1)) head.indent) (cut (begins_part head.indent) (head ∷ rows)) ≡ Ok (list_of items)) → node left floor head rows ≡ Ok (seq head.number items)
sequence_read left floor head rows items h d e =
    let n = seq_depth head.number items in
    let is : left ≡ suc (left - 1) = some_level left (items_depth items) (depth (seq head.number items)) n d in
    ap (λ l. node l floor head rows) is ∙ sequence_at (left - 1) floor head rows items h (e (less_level left (items_depth items) (depth (seq head.number items)) n d))

map_read : (left floor : ℕ) (head : Row) (rows : List Row) (entries : Entries) → begins_item head.text ≡ false → begins_with_key head.text ≡ true → depth (mapping head.number entries) ≤ left →
    (entries_depth entries ≤ left - 1 → all_entries (entry_of (left - 1) (node (left - 1)) head.indent) [] (cut (begins_entry head.indent) (head ∷ rows)) ≡ Ok (pairs_of entries)) →
    node left floor head rows ≡ Ok (mapping head.number entries)
map_read left floor head rows entries h k d e =
    let n = map_depth head.number entries in
    let is : left ≡ suc (left - 1) = some_level left (entries_depth entries) (depth (mapping head.number entries)) n d in
    ap (λ l. node l floor head rows) is ∙ map_at (left - 1) floor head rows entries h k (e (less_level left (entries_depth entries) (depth (mapping head.number entries)) n d))

-- the first row of items begins one
pub items_head : {column : ℕ} {all : List Row} {values : Trees} → Items column all values → (head : Row) (rows : List Row) → all ≡ head ∷ rows → begins_item head.text ≡ true
items_head nodes.Items.no_item head rows e = absurd (cc)
items_head (nodes.Items.item first body more s h w i others) head rows e = let same : first ≡ head = cc in sym (ap (λ r. begins_item r.text) same) ∙ h

-- the first row of entries has a key, and is no item
pub entries_head : {column : ℕ} {all : List Row} {entries : Entries} → MapEntries column all entries → (head : Row) (rows : List Row) → all ≡ head ∷ rows → (begins_item head.text ≡ false) × (begins_with_key head.text ≡ true)
entries_head nodes.MapEntries.no_more head rows e = absurd (cc)
entries_head (nodes.MapEntries.keyed first body more s h k w v others) head rows e =
    let same : first ≡ head = cc in (sym (ap (λ r. begins_item r.text) same) ∙ h, sym (ap (λ r. begins_with_key r.text) same) ∙ ap is_some (key_read k))

-- a collection begins with an item or a key
pub collection_begins : {head : Row} {rows : List Row} {value : YamlTree} → Collection head rows value → begins_collection head.text ≡ true
collection_begins (nodes.Collection.block_sequence {head = head} {rows = rows} is) = rw (items_head is head rows refl) refl
collection_begins (nodes.Collection.block_map {head = head} {rows = rows} es u) = let h = entries_head es head rows refl in rw (h.0, h.1) refl

-- ---- all together

mutual
  pub node_read : {floor : ℕ} {head : Row} {rows : List Row} {value : YamlTree} → Node floor head rows value → (left : ℕ) → depth value ≤ left → node left floor head rows ≡ Ok value
  node_read (nodes.Node.collection {floor = floor} c) left d = collection_read c floor left d
  node_read (nodes.Node.alone {floor = floor} {head = head} {rows = rows} {value = value} h a) left d =
      alone_at left floor head rows value (alone_begins a h) (alone_read a left head.indent d)

  pub collection_read : {head : Row} {rows : List Row} {value : YamlTree} → Collection head rows value → (floor left : ℕ) → depth value ≤ left → node left floor head rows ≡ Ok value
  collection_read (nodes.Collection.block_sequence {head = head} {rows = rows} {items = items} is) floor left d =
      sequence_read left floor head rows items (items_head is head rows refl) d (λ l. items_read is (left - 1) l)
  collection_read (nodes.Collection.block_map {head = head} {rows = rows} {entries = entries} es u) floor left d =
      map_read left floor head rows entries (entries_head es head rows refl).0 (entries_head es head rows refl).1 d (λ l. entries_read es (left - 1) [] l (differ_read (keys_of entries) u))

  pub block_read : {floor line : ℕ} {rows : List Row} {value : YamlTree} → Block floor line rows value → (left : ℕ) → depth value ≤ left → block (node left) floor line rows ≡ Ok value
  block_read (nodes.Block.nothing {floor = floor} {line = line} {rows = rows} h) left d = nothing_at (node left) floor line rows h
  block_read (nodes.Block.node {floor = floor} {line = line} {value = value} before head behind h c t is) left d =
      block_at (node left) floor line before head behind value h c t (node_read is left d)

  pub items_read : {column : ℕ} {rows : List Row} {values : Trees} → Items column rows values → (left : ℕ) → items_depth values ≤ left →
      all_items (item_of (node left) column) (cut (begins_part column) rows) ≡ Ok (list_of values)
  items_read nodes.Items.no_item left d = refl
  items_read (nodes.Items.item {column = column} {value = value} {values = values} first body rows s h w i more) left d =
      items_cut (node left) column first body rows value (list_of values) w (items_start more) (item_read i left s h (tree_first value values left d)) (items_read more left (tree_rest value values left d))

  pub item_read : {column : ℕ} {first : Row} {body : List Row} {value : YamlTree} → Item column first body value → (left : ℕ) → StandsAt column first → begins_item first.text ≡ true → depth value ≤ left →
      item_of (node left) column first body ≡ Ok value
  item_read (nodes.Item.beneath {column = column} {first = first} {body = body} {value = value} n b) left s h d =
      item_below (node left) column first body value s h n (block_read b left d)
  item_read (nodes.Item.compact {column = column} {first = first} {body = body} {value = value} n t c) left s h d =
      item_behind true (node left) column first body value s h n (neither_tab (tab_behind first) (begins_collection (behind_item first).text) (inl t)) (collection_read c (suc column) left d)
  item_read (nodes.Item.alone_behind {column = column} {first = first} {body = body} {value = value} n st a) left s h d =
      let none = alone_begins a st in
      item_behind true (node left) column first body value s h n (neither_tab (tab_behind first) (begins_collection (behind_item first).text) (inr none))
      (alone_at left (suc column) (behind_item first) body value none (alone_read a left (behind_item first).indent d))

  pub entries_read : {column : ℕ} {rows : List Row} {entries : Entries} → MapEntries column rows entries → (left : ℕ) (seen : List (List ℕ)) → entries_depth entries ≤ left → are_new seen (keys_of entries) ≡ true →
      all_entries (entry_of left (node left) column) seen (cut (begins_entry column) rows) ≡ Ok (pairs_of entries)
  entries_read nodes.MapEntries.no_more left seen d u = refl
  entries_read (nodes.MapEntries.keyed {column = column} {key = key} {behind = behind} {value = value} {entries = entries} first body rows s h k w v more) left seen d u =
      entries_cut left (node left) column seen first body rows key value (pairs_of entries) w (entries_start more)
      (entry_read left (node left) column seen first body key behind value s (key_read k) (differ_first seen key (keys_of entries) u) (value_read v left (entry_first key value entries left d)))
      (entries_read more left (seen ++ key ∷ []) (entry_rest key value entries left d) (differ_rest seen key (keys_of entries) u))

  pub value_read : {column line : ℕ} {text : List ℕ} {rows : List Row} {value : YamlTree} → Value column line text rows value → (left : ℕ) → depth value ≤ left →
      value_after_key left (node left) column line text rows ≡ Ok value
  value_read (nodes.Value.at_column {column = column} {line = line} {text = text} {value = value} before first behind n h i is) left d =
      value_own left (node left) column line text before first behind value n h i (node_read is left d)
  value_read (nodes.Value.deeper {column = column} {line = line} {text = text} {rows = rows} {value = value} n w b) left d =
      value_deeper left (node left) column line text rows value n w (block_read b left d)
  value_read (nodes.Value.behind_key {column = column} {line = line} {text = text} {rows = rows} {value = value} n w a) left d =
      value_behind left (node left) column line text rows value n w (alone_read a left zero d)
