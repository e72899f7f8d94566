-- Which rows hold which value.
use Rattle.std.specs.Prelude.{◌≡◌, ℕ, suc, max, true, false, List, [], ◌∷◌, ◌++◌}
use Rattle.std.specs.List.{AllByRecursion as Each}
use Rattle.rb_causes.specs.Signs.{colon}
use Rattle.rb_yaml.specs.Rows.{Row, past_blanks, is_content, is_tabbed}
use Rattle.rb_yaml.specs.Signs.{begins_item, is_nothing}
use Rattle.rb_yaml.specs.Line.{behind_item, tab_behind}
use Rattle.rb_yaml.specs.Edges.{is_item_at}
use Rattle.rb_yaml.specs.Tree.{YamlTree, Trees, Entries, scalar, seq, mapping, no_tree, tree, no_entry, entry}
use Rattle.rb_yaml_laws.specs.Bare.{Bare, IsWithin, IsBeneath}
use Rattle.rb_yaml_laws.specs.Plain.{begins_other}
use Rattle.rb_yaml_laws.specs.Keys.{IsFirstColon, Key, Differ}
use Rattle.rb_yaml_laws.specs.Says.{Alone}

-- a row with content and no tab before it, at this column
abbrev pub StandsAt : ℕ → Row → Type 0
StandsAt column row = (is_content row ≡ true) × (is_tabbed row ≡ false) × (row.indent ≡ column)

-- the keys of a map in their order
abbrev pub keys_of : Entries → List (List ℕ)
keys_of no_entry = []
keys_of (entry key value entries) = key ∷ keys_of entries

-- A text that begins no item and, where it is plain, no key: no colon in it is the sign of one.
abbrev pub StandsAlone : List ℕ → Type 0
StandsAlone text =
    (begins_item text ≡ false)
    × (begins_other text ≡ false → (first : ℕ) (front behind : List ℕ) →
    text ≡ first ∷ front ++ colon ∷ behind → IsFirstColon front behind → ⊥)

mutual
  -- The node that begins at a row, with the rows behind it. A scalar may go on over rows from a
  -- column on, the floor.
  pub data Node : ℕ → Row → List Row → YamlTree → Type 0 where
    -- a sequence or a map
    collection : {floor : ℕ} {head : Row} {rows : List Row} {value : YamlTree} →
        Collection head rows value → Node floor head rows value
    -- a row that begins no item and no key: a scalar or a flow
    alone : {floor : ℕ} {head : Row} {rows : List Row} {value : YamlTree} →
        StandsAlone head.text → Alone floor head.number head.text rows value →
        Node floor head rows value

  -- A sequence or a map over rows.
  pub data Collection : Row → List Row → YamlTree → Type 0 where
    -- items at the column of its first row
    block_sequence : {head : Row} {rows : List Row} {items : Trees} →
        Items head.indent (head ∷ rows) items → Collection head rows (seq head.number items)
    -- entries at the column of its first row, and no key twice
    block_map : {head : Row} {rows : List Row} {entries : Entries} →
        MapEntries head.indent (head ∷ rows) entries → Differ (keys_of entries) →
        Collection head rows (mapping head.number entries)

  -- The node of the next rows, or the empty scalar of a line where no row has content.
  pub data Block : ℕ → ℕ → List Row → YamlTree → Type 0 where
    -- no content
    nothing : {floor line : ℕ} {rows : List Row} → Bare rows →
        Block floor line rows (scalar line [])
    -- the first row with content begins a node
    node : {floor line : ℕ} {value : YamlTree} (before : List Row) (head : Row)
        (behind : List Row) → Bare before → is_content head ≡ true → is_tabbed head ≡ false →
        Node floor head behind value → Block floor line (before ++ head ∷ behind) value

  -- The items of a sequence at a column, with all their rows.
  pub data Items : ℕ → List Row → Trees → Type 0 where
    -- no row is left
    no_item : {column : ℕ} → Items column [] no_tree
    -- a row with the sign of an item, the rows that belong to it, and the other items
    item : {column : ℕ} {value : YamlTree} {values : Trees} (first : Row)
        (body rows : List Row) → StandsAt column first → begins_item first.text ≡ true →
        Each (IsWithin column) body → Item column first body value → Items column rows values →
        Items column (first ∷ body ++ rows) (tree value values)

  -- One item of a sequence: nothing stands behind its sign, or its value begins there.
  pub data Item : ℕ → Row → List Row → YamlTree → Type 0 where
    -- nothing stands behind the sign
    beneath : {column : ℕ} {first : Row} {body : List Row} {value : YamlTree} →
        is_nothing (behind_item first).text ≡ true → Block (suc column) first.number body value →
        Item column first body value
    -- a compact collection: it begins behind the sign, at its own column, with no tab before it
    compact : {column : ℕ} {first : Row} {body : List Row} {value : YamlTree} →
        is_nothing (behind_item first).text ≡ false → tab_behind first ≡ false →
        Collection (behind_item first) body value → Item column first body value
    -- a scalar or a flow behind the sign
    alone_behind : {column : ℕ} {first : Row} {body : List Row} {value : YamlTree} →
        is_nothing (behind_item first).text ≡ false → StandsAlone (behind_item first).text →
        Alone (suc column) first.number (behind_item first).text body value →
        Item column first body value

  -- The entries of a map at a column, with all their rows.
  pub data MapEntries : ℕ → List Row → Entries → Type 0 where
    -- no row is left
    no_more : {column : ℕ} → MapEntries column [] no_entry
    -- a row with a key, the rows that belong to it, and the other entries
    keyed : {column : ℕ} {key behind : List ℕ} {value : YamlTree} {entries : Entries} (first : Row)
        (body rows : List Row) → StandsAt column first →
        begins_item first.text ≡ false → Key first.text key behind → Each (IsBeneath column) body →
        Value column first.number (past_blanks behind) body value →
        MapEntries column rows entries →
        MapEntries column (first ∷ body ++ rows) (entry key value entries)

  -- The value of a key at a column. Where nothing stands behind the key, it may be a sequence at
  -- that very column.
  pub data Value : ℕ → ℕ → List ℕ → List Row → YamlTree → Type 0 where
    -- a sequence at the key's own column
    at_column : {column line : ℕ} {text : List ℕ} {value : YamlTree} (before : List Row)
        (first : Row) (behind : List Row) → is_nothing text ≡ true → Bare before →
        is_item_at column first ≡ true → Node column first behind value →
        Value column line text (before ++ first ∷ behind) value
    -- nothing stands behind the key, and no item at its column
    deeper : {column line : ℕ} {text : List ℕ} {rows : List Row} {value : YamlTree} →
        is_nothing text ≡ true → Each (IsWithin column) rows →
        Block (suc column) line rows value → Value column line text rows value
    -- a scalar or a flow behind the key
    behind_key : {column line : ℕ} {text : List ℕ} {rows : List Row} {value : YamlTree} →
        is_nothing text ≡ false → Each (IsWithin column) rows →
        Alone (suc column) line text rows value → Value column line text rows value

-- how deep the collections of a value nest
unfoldable mutual
  pub depth : YamlTree → ℕ
  depth (scalar line text) = 0
  depth (seq line items) = suc (items_depth items)
  depth (mapping line entries) = suc (entries_depth entries)

  pub items_depth : Trees → ℕ
  items_depth no_tree = 0
  items_depth (tree value values) = max (depth value) (items_depth values)

  pub entries_depth : Entries → ℕ
  entries_depth no_entry = 0
  entries_depth (entry key value entries) = max (depth value) (entries_depth entries)

-- no map in a value, however deep, has a key twice
unfoldable mutual
  pub HasApartKeys : YamlTree → Type 0
  HasApartKeys (scalar line text) = Unit {0}
  HasApartKeys (seq line items) = ItemsHaveApartKeys items
  HasApartKeys (mapping line entries) = Differ (keys_of entries) × EntriesHaveApartKeys entries

  pub ItemsHaveApartKeys : Trees → Type 0
  ItemsHaveApartKeys no_tree = Unit {0}
  ItemsHaveApartKeys (tree value values) = HasApartKeys value × ItemsHaveApartKeys values

  pub EntriesHaveApartKeys : Entries → Type 0
  EntriesHaveApartKeys no_entry = Unit {0}
  EntriesHaveApartKeys (entry key value entries) = HasApartKeys value × EntriesHaveApartKeys entries
