-- Blocks and sequences: what is read is meant.
use Rattle.std.proofs.Common.{◌≡◌, ◌≤◌, ℕ, suc, max, Bool, true, false, ◌&&◌, nat_eq, nat_le, List, [], ◌∷◌, ◌++◌, drop, Option, Some, None, Ok, refl, sym, ap, subst, ◌∙◌, append_assoc, arith}
use Rattle.std.proofs.lemmas.Bool.{eqb-true, and_parts, or_parts}
use Rattle.std.specs.List.{AllByRecursion as Each}
use Rattle.rb_yaml.specs.Rows.{Row, past_blanks, is_content, is_tabbed, first_content}
use Rattle.rb_yaml.specs.Parts.{parts}
use Rattle.rb_yaml.specs.Signs.{begins_item, is_nothing}
use Rattle.rb_yaml.specs.Line.{behind_item, tab_behind, place_flaw}
use Rattle.rb_yaml.specs.Edges.{begins_part}
use Rattle.rb_yaml.specs.Keys.{begins_collection}
use Rattle.rb_yaml.specs.Tree.{YamlTree, Trees, scalar, seq, no_tree, tree, trees_of}
use Rattle.rb_yaml.specs.Alone.{Reader}
use Rattle.rb_yaml.specs.Nodes.{block, item_of, all_items, seq_of, item_value, compact_flaw}
use Rattle.rb_yaml_laws.specs.Bare.{IsWithin}
use Rattle.rb_yaml_laws.specs.Nodes as nodes
use Rattle.rb_yaml_laws.specs.Nodes.{StandsAt, StandsAlone, keys_of, Node, Collection, Block, Items, Item, MapEntries, Value, depth, items_depth, entries_depth}
use Rattle.rb_yaml_laws.specs.Says.{Alone}
use Rattle.rb_yaml_laws.proofs.NodeReads.{collection_begins}
use Rattle.rb_yaml_laws.proofs.Binds.{bound}
use Rattle.rb_yaml_laws.proofs.FlawFacts.{none_if, beside_none, place_none}
use Rattle.rb_yaml_laws.proofs.RowFacts.{each_append, none_bare, at_first}
use Rattle.rb_yaml_laws.proofs.BlankFacts.{past_dark}
use Rattle.rb_yaml_laws.proofs.SaysFacts.{row, seq_depth, scalar_depth}
use Rattle.rb_yaml_laws.proofs.CutFacts.{filled_content, no_part_within}

-- the value that is read is meant, and no deeper than the levels that are left
pub record NodeMeant (left floor : ℕ) (head : Row) (rows : List Row) (value : YamlTree) : Type 0 where
  pub means : Node floor head rows value
  pub within : depth value ≤ left

-- what a reader of nodes gives is meant
abbrev pub Sound : ℕ → Reader → Type 0
Sound n below = (floor : ℕ) (head : Row) (rows : List Row) (value : YamlTree) → is_content head ≡ true → is_tabbed head ≡ false → below floor head rows ≡ Ok value → NodeMeant n floor head rows value

-- ---- blocks

pub record BlockMeant (left floor line : ℕ) (rows : List Row) (value : YamlTree) : Type 0 where
  pub means : Block floor line rows value
  pub within : depth value ≤ left

block_first : (t : Bool) (n : ℕ) (below : Reader) (floor line : ℕ) (rows : List Row) (value : YamlTree) (first : Row × List Row) → Sound n below → first_content rows ≡ Some first → is_tabbed first.0 ≡ t →
    block below floor line rows ≡ Ok value → BlockMeant n floor line rows value
block_first true n below floor line rows value first sound h k e = let never = rw (h, k) at e in absurd (cc)
block_first false n below floor line rows value first sound h k e =
    let at = at_first rows first h in
    let m = sound floor first.0 first.1 value at.filled k (rw (h, k) at e) in
    subst (λ xs. BlockMeant n floor line xs value) (sym at.all) (record { means = nodes.Block.node at.before first.0 first.1 at.bare at.filled k m.means; within = m.within })

block_by : (o : Option (Row × List Row)) (n : ℕ) (below : Reader) (floor line : ℕ) (rows : List Row) (value : YamlTree) → Sound n below → first_content rows ≡ o → block below floor line rows ≡ Ok value → BlockMeant n floor line rows value
block_by None n below floor line rows value sound h e =
    let same : scalar line [] ≡ value = let k = rw h at e in cc in
    let d = scalar_depth line [] in
    subst (BlockMeant n floor line rows) same (record { means = nodes.Block.nothing (none_bare rows h); within = omega (arith, d) })
block_by (Some first) n below floor line rows value sound h e = block_first (is_tabbed first.0) n below floor line rows value first sound h refl e

pub block_meant : (n : ℕ) (below : Reader) (floor line : ℕ) (rows : List Row) (value : YamlTree) → Sound n below → block below floor line rows ≡ Ok value → BlockMeant n floor line rows value
block_meant n below floor line rows value sound e = block_by (first_content rows) n below floor line rows value sound refl e

-- ---- sequences

behind_by : (past : List ℕ) (first : Row) → past_blanks (drop 1 first.text) ≡ past → is_nothing past ≡ false → (is_content (behind_item first) ≡ true) × (is_tabbed (behind_item first) ≡ false)
behind_by [] first e h = absurd (cc)
behind_by (c ∷ cs) first e h =
    let dark = past_dark (drop 1 first.text) c cs e in
    (filled_content (behind_item first) (ap is_nothing e ∙ h) c cs e dark, rw e ((or_parts (nat_eq c 32) (nat_eq c 9) dark).1))

-- what stands behind the sign of an item is content without a tab
behind_content : (first : Row) → is_nothing (behind_item first).text ≡ false → (is_content (behind_item first) ≡ true) × (is_tabbed (behind_item first) ≡ false)
behind_content first h = behind_by (past_blanks (drop 1 first.text)) first refl h

pub record ItemMeant (n column : ℕ) (first : Row) (body : List Row) (value : YamlTree) : Type 0 where
  pub no_tab : is_tabbed first ≡ false
  pub at : first.indent ≡ column
  pub sign : begins_item first.text ≡ true
  pub means : Item column first body value
  pub within : depth value ≤ n

no_tab_by : (a b : Bool) → (a && b) ≡ false → b ≡ true → a ≡ false
no_tab_by false b h k = refl
no_tab_by true b h k = absurd (cc)

-- the node behind the sign of an item is a compact collection, or stands alone
behind_from : {floor : ℕ} {head : Row} {rows : List Row} {value : YamlTree} → Node floor head rows value → (first : Row) → floor ≡ suc first.indent → head ≡ behind_item first →
    is_nothing (behind_item first).text ≡ false → (tab_behind first && begins_collection (behind_item first).text) ≡ false → Item first.indent first rows value
behind_from (nodes.Node.collection {rows = rows} {value = value} c) first f e h t =
    let mine = subst (λ r. Collection r rows value) e c in
    nodes.Item.compact h (no_tab_by (tab_behind first) (begins_collection (behind_item first).text) t (collection_begins mine)) mine
behind_from (nodes.Node.alone {floor = floor} {rows = rows} {value = value} s a) first f e h t =
    let mine = subst (λ r. Alone floor r.number r.text rows value) e a in
    nodes.Item.alone_behind h (subst (λ r. StandsAlone r.text) e s) (subst (λ n. Alone n first.number (behind_item first).text rows value) f mine)

-- what is behind the sign of an item
pub record ValueMeant (n column : ℕ) (first : Row) (body : List Row) (value : YamlTree) : Type 0 where
  pub means : Item column first body value
  pub within : depth value ≤ n

item_value_by : (t : Bool) (n : ℕ) (below : Reader) (first : Row) (body : List Row) (value : YamlTree) → Sound n below →
    is_nothing (behind_item first).text ≡ t → item_value below first body ≡ Ok value → ValueMeant n first.indent first body value
item_value_by true n below first body value sound h e =
    let m = block_meant n below (suc first.indent) first.number body value sound (rw h at e) in
    record { means = nodes.Item.beneath h m.means; within = m.within }
item_value_by false n below first body value sound h e =
    let b = beside_none first.number (compact_flaw first) (below (suc first.indent) (behind_item first) body) value (rw h at e) in
    let tab = none_if (tab_behind first && begins_collection (behind_item first).text) _ b.0 in
    let c = behind_content first h in
    let m = sound (suc first.indent) (behind_item first) body value c.0 c.1 b.1 in
    record {
      means = behind_from m.means first refl refl h tab;
      within = m.within;
    }

item_by : (t : Bool) (n : ℕ) (below : Reader) (column : ℕ) (first : Row) (body : List Row) (value : YamlTree) → Sound n below →
    begins_item first.text ≡ t → item_of below column first body ≡ Ok value → ItemMeant n column first body value
item_by false n below column first body value sound h e = let never = rw h at e in absurd (cc)
item_by true n below column first body value sound h e =
    let b = beside_none first.number (place_flaw column first) (item_value below first body) value (rw h at e) in
    let place = place_none column first b.0 in
    let at = eqb-true first.indent column place.1 in
    let m = item_value_by (is_nothing (behind_item first).text) n below first body value sound refl b.1 in
    record { no_tab = place.0; at = at; sign = h; means = subst (λ c. Item c first body value) at m.means; within = m.within }

item_meant : (n : ℕ) (below : Reader) (column : ℕ) (first : Row) (body : List Row) (value : YamlTree) → Sound n below → item_of below column first body ≡ Ok value → ItemMeant n column first body value
item_meant n below column first body value sound e = item_by (begins_item first.text) n below column first body value sound refl e

pub record ItemsMeant (n column : ℕ) (rows : List Row) (values : List YamlTree) : Type 0 where
  pub means : Items column rows (trees_of values)
  pub within : items_depth (trees_of values) ≤ n

pub max_le : (a b n : ℕ) → a ≤ n → b ≤ n → max a b ≤ n
max_le a b n h k = grind arith

items_within : (value : YamlTree) (values : Trees) (n : ℕ) → depth value ≤ n → items_depth values ≤ n → items_depth (tree value values) ≤ n
unfolding depth
items_within value values n h k = max_le (depth value) (items_depth values) n h k

none_within : (n : ℕ) → items_depth no_tree ≤ n
unfolding depth
none_within n = omega arith

one_item : (n column : ℕ) (first : Row) (body rows : List Row) (value : YamlTree) (values : List YamlTree) → is_content first ≡ true → Each (IsWithin column) body → ItemMeant n column first body value → ItemsMeant n column rows values →
    ItemsMeant n column (first ∷ body ++ rows) (value ∷ values)
one_item n column first body rows value values c w m more = record {
  means = nodes.Items.item first body rows (c, m.no_tab, m.at) m.sign w m.means more.means;
  within = items_within value (trees_of values) n m.within more.within;
}

items_last : (n : ℕ) (below : Reader) (column : ℕ) (first : Row) (body : List Row) (values : List YamlTree) → Sound n below → is_content first ≡ true → Each (IsWithin column) body →
    all_items (item_of below column) ((first, body) ∷ []) ≡ Ok values → ItemsMeant n column (first ∷ body ++ []) values
items_last n below column first body values sound c w e =
    let k = bound (item_of below column first body) _ values e in
    let same : k.x ∷ [] ≡ values = let t = k.then_ in cc in
    subst (ItemsMeant n column (first ∷ body ++ [])) same
    (one_item n column first body [] k.x [] c w (item_meant n below column first body k.x sound k.first) (record { means = nodes.Items.no_item; within = none_within n }))

items_more : (n : ℕ) (below : Reader) (column : ℕ) (first : Row) (body rows : List Row) (more : List (Row × List Row)) (values : List YamlTree) → Sound n below → is_content first ≡ true → Each (IsWithin column) body →
    ((vs : List YamlTree) → all_items (item_of below column) more ≡ Ok vs → ItemsMeant n column rows vs) →
    all_items (item_of below column) ((first, body) ∷ more) ≡ Ok values → ItemsMeant n column (first ∷ body ++ rows) values
items_more n below column first body rows more values sound c w next e =
    let k = bound (item_of below column first body) _ values e in
    let l = bound (all_items (item_of below column) more) _ values k.then_ in
    let same : k.x ∷ l.x ≡ values = let t = l.then_ in cc in
    subst (ItemsMeant n column (first ∷ body ++ rows)) same (one_item n column first body rows k.x l.x c w (item_meant n below column first body k.x sound k.first) (next l.x l.first))

items_row : (t : Bool) (n : ℕ) (below : Reader) (column : ℕ) (first row : Row) (so_far rows : List Row) (values : List YamlTree) → Sound n below → is_content first ≡ true → Each (IsWithin column) so_far → begins_part column row ≡ t →
    (is_content row ≡ true → (vs : List YamlTree) → all_items (item_of below column) (parts (begins_part column) row [] rows) ≡ Ok vs → ItemsMeant n column (row ∷ rows) vs) →
    (Each (IsWithin column) (so_far ++ row ∷ []) → all_items (item_of below column) (parts (begins_part column) first (so_far ++ row ∷ []) rows) ≡ Ok values → ItemsMeant n column (first ∷ (so_far ++ row ∷ []) ++ rows) values) →
    all_items (item_of below column) (parts (begins_part column) first so_far (row ∷ rows)) ≡ Ok values → ItemsMeant n column (first ∷ so_far ++ row ∷ rows) values
items_row true n below column first row so_far rows values sound c w h next grow e =
    items_more n below column first so_far (row ∷ rows) (parts (begins_part column) row [] rows) values sound c w (next ((and_parts (is_content row) (nat_le row.indent column) h).0)) (rw h at e)
items_row false n below column first row so_far rows values sound c w h next grow e =
    subst (λ xs. ItemsMeant n column (first ∷ xs) values) (append_assoc so_far (row ∷ []) rows)
    (grow (each_append (IsWithin column) so_far (row ∷ []) w (no_part_within column row h, tt)) (rw h at e))

items_meant : (rows : List Row) (n : ℕ) (below : Reader) (column : ℕ) (first : Row) (so_far : List Row) (values : List YamlTree) → Sound n below → is_content first ≡ true → Each (IsWithin column) so_far →
    all_items (item_of below column) (parts (begins_part column) first so_far rows) ≡ Ok values → ItemsMeant n column (first ∷ so_far ++ rows) values
items_meant [] n below column first so_far values sound c w e = items_last n below column first so_far values sound c w e
items_meant (row ∷ rows) n below column first so_far values sound c w e =
    items_row (begins_part column row) n below column first row so_far rows values sound c w refl
    (λ k vs f. items_meant rows n below column row [] vs sound k tt f)
    (λ k f. items_meant rows n below column first (so_far ++ row ∷ []) values sound c k f) e

pub deeper_by : (d i n : ℕ) → d ≡ suc i → i ≤ n → d ≤ suc n
deeper_by d i n e h = omega (arith, e, h)

pub seq_meant : (n : ℕ) (below : Reader) (floor : ℕ) (head : Row) (rows : List Row) (value : YamlTree) → Sound n below → is_content head ≡ true → begins_item head.text ≡ true → seq_of below head rows ≡ Ok value → NodeMeant (suc n) floor head rows value
seq_meant n below floor head rows value sound c h e =
    let k = bound (all_items (item_of below head.indent) (parts (begins_part head.indent) head [] rows)) _ value e in
    let m = items_meant rows n below head.indent head [] k.x sound c tt k.first in
    let same : seq head.number (trees_of k.x) ≡ value = let t = k.then_ in cc in
    subst (NodeMeant (suc n) floor head rows) same
    (record { means = nodes.Node.collection (nodes.Collection.block_sequence m.means); within = deeper_by (depth (seq head.number (trees_of k.x))) (items_depth (trees_of k.x)) n (seq_depth head.number (trees_of k.x)) m.within })
