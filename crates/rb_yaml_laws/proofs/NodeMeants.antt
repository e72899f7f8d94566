-- Maps, and all nodes: what is read is meant.
use Rattle.std.proofs.Common.{◌≡◌, ◌≤◌, ℕ, zero, suc, Bool, true, false, not, cond, ◌&&◌, nat_eq, nat_le, is_none, List, [], ◌∷◌, ◌++◌, Option, Some, None, Ok, Err, refl, sym, ap, subst, ◌∙◌, append_assoc, arith}
use Rattle.std.proofs.Math.Bool.{and-false}
use Rattle.std.proofs.lemmas.Bool.{eq-eqb, not-true, eqb-true, and_parts, and_from, or_from, not_from_false}
use Rattle.std.specs.List.{AllByRecursion as Each}
use Rattle.rb_causes.specs.Texts.{are_new, has_text}
use Rattle.rb_yaml.specs.Rows.{Row, past_blanks, is_content, is_tabbed, first_content}
use Rattle.rb_yaml.specs.Parts.{until, onward, parts}
use Rattle.rb_yaml.specs.Signs.{begins_item, is_nothing}
use Rattle.rb_yaml.specs.Edges.{begins_part, is_item_at, begins_entry}
use Rattle.rb_yaml.specs.Keys.{KeyPart, key_part, begins_with_key, begins_collection}
use Rattle.rb_yaml.specs.Scalars.{TreeReading}
use Rattle.rb_yaml.specs.Tree.{YamlTree, Entries, mapping, no_entry, entry, entries_of}
use Rattle.rb_yaml.specs.Alone.{Reader, alone}
use Rattle.rb_yaml.specs.Entries.{then_ill}
use Rattle.rb_yaml.specs.Nodes.{seq_of, value_after_key, entry_of, all_entries, map_of, node}
use Rattle.rb_yaml_laws.specs.Bare.{IsWithin, IsBeneath}
use Rattle.rb_yaml_laws.specs.Nodes as nodes
use Rattle.rb_yaml_laws.specs.Nodes.{StandsAt, keys_of, Node, Block, Items, Item, MapEntries, Value, depth, items_depth, entries_depth}
use Rattle.rb_yaml_laws.proofs.Binds.{bound}
use Rattle.rb_yaml.specs.Faults.{either, fault_with, beside}
use Rattle.rb_yaml.specs.Line.{place_flaw}
use Rattle.rb_yaml.specs.Entries.{new_key_flaw, key_text}
use Rattle.rb_yaml_laws.proofs.AloneFacts.{stands_alone}
use Rattle.rb_yaml_laws.proofs.FlawFacts.{either_none, beside_none, place_none, new_key_none}
use Rattle.rb_yaml_laws.proofs.RowFacts.{each_append, none_bare}
use Rattle.rb_yaml_laws.proofs.KeyFacts.{key_meant}
use Rattle.rb_yaml_laws.proofs.DifferFacts.{differ_meant}
use Rattle.rb_yaml_laws.proofs.SaysFacts.{row, map_depth, alone_meant}
use Rattle.rb_yaml_laws.proofs.CutFacts.{item_content, item_no_tab, passed, none_passes, no_entry_beneath, each_within}
use Rattle.rb_yaml_laws.proofs.SequenceMeants.{NodeMeant, Sound, block_meant, max_le, deeper_by, seq_meant}

-- ---- maps

pub record ValueMeant (left column line : ℕ) (text : List ℕ) (rows : List Row) (value : YamlTree) : Type 0 where
  pub means : Value column line text rows value
  pub within : depth value ≤ left

inner_by : (t : Bool) (left : ℕ) (below : Reader) (column line : ℕ) (text : List ℕ) (rows : List Row) (value : YamlTree) → Sound left below → Each (IsWithin column) rows → onward (is_item_at column) rows ≡ [] → is_nothing text ≡ t →
    value_after_key left below column line text rows ≡ Ok value → ValueMeant left column line text rows value
inner_by true left below column line text rows value sound w o h e =
    let m = block_meant left below (suc column) line rows value sound (rw (o, h) at e) in record { means = nodes.Value.deeper h w m.means; within = m.within }
inner_by false left below column line text rows value sound w o h e =
    let m = alone_meant left (suc column) line zero text rows value (rw (o, h) at e) in record { means = nodes.Value.behind_key h w m.means; within = m.within }

never_ill : (read : TreeReading) (line : ℕ) (value : YamlTree) → then_ill read line ≡ Ok value → ⊥
never_ill (Ok v) line value e = cc
never_ill (Err f) line value e = cc

none_is : {A : Type 0} (o : Option A) → is_none o ≡ true → o ≡ None
none_is None h = refl
none_is (Some x) h = absurd (cc)

own_by : (t : Bool) (left : ℕ) (below : Reader) (column line : ℕ) (text : List ℕ) (rows : List Row) (item : Row) (items : List Row) (value : YamlTree) → Sound left below → onward (is_item_at column) rows ≡ item ∷ items →
    (is_nothing text && is_none (first_content (until (is_item_at column) rows))) ≡ t → value_after_key left below column line text rows ≡ Ok value → ValueMeant left column line text rows value
own_by false left below column line text rows item items value sound o h e = let never = rw (o, h) at e in absurd (never_ill _ _ value never)
own_by true left below column line text rows item items value sound o h e =
    let at = passed (is_item_at column) rows item items o in
    let sign = (and_parts (nat_eq item.indent column) (begins_item item.text) at.passes).1 in
    let m = sound column item items value (item_content item sign) (item_no_tab item sign) (rw (o, h) at e) in
    let none = none_is (first_content (until (is_item_at column) rows)) ((and_parts (is_nothing text) (is_none (first_content (until (is_item_at column) rows))) h).1) in
    let bare = none_bare at.before (ap first_content (sym at.front) ∙ none) in
    subst (λ xs. ValueMeant left column line text xs value) (sym at.all)
    (record { means = nodes.Value.at_column at.before item items ((and_parts (is_nothing text) (is_none (first_content (until (is_item_at column) rows))) h).0) bare at.passes m.means; within = m.within })

value_by : (found : List Row) (left : ℕ) (below : Reader) (column line : ℕ) (text : List ℕ) (rows : List Row) (value : YamlTree) → Sound left below → Each (IsBeneath column) rows → onward (is_item_at column) rows ≡ found →
    value_after_key left below column line text rows ≡ Ok value → ValueMeant left column line text rows value
value_by [] left below column line text rows value sound w o e = inner_by (is_nothing text) left below column line text rows value sound (each_within column rows w (none_passes (is_item_at column) rows o)) o refl e
value_by (item ∷ items) left below column line text rows value sound w o e =
    own_by (is_nothing text && is_none (first_content (until (is_item_at column) rows))) left below column line text rows item items value sound o refl e

value_meant : (left : ℕ) (below : Reader) (column line : ℕ) (text : List ℕ) (rows : List Row) (value : YamlTree) → Sound left below → Each (IsBeneath column) rows → value_after_key left below column line text rows ≡ Ok value →
    ValueMeant left column line text rows value
value_meant left below column line text rows value sound w e = value_by (onward (is_item_at column) rows) left below column line text rows value sound w refl e

pub record EntryMeant (left column : ℕ) (seen : List (List ℕ)) (first : Row) (body : List Row) (pair : List ℕ × YamlTree) : Type 0 where
  pub behind : List ℕ
  pub no_tab : is_tabbed first ≡ false
  pub at : first.indent ≡ column
  pub keyed : key_part first.text ≡ Some (record { key = Ok pair.0; behind = behind })
  pub fresh : has_text seen pair.0 ≡ false
  pub means : Value column first.number (past_blanks behind) body pair.1
  pub within : depth pair.1 ≤ left

entry_by : (o : Option KeyPart) (left : ℕ) (below : Reader) (column : ℕ) (seen : List (List ℕ)) (first : Row) (body : List Row) (pair : List ℕ × YamlTree) → Sound left below → Each (IsBeneath column) body →
    key_part first.text ≡ o → entry_of left below column seen first body ≡ Ok pair → EntryMeant left column seen first body pair
entry_by None left below column seen first body pair sound w k e = let never = rw k at e in absurd (cc)
entry_by (Some part) left below column seen first body pair sound w k e =
    let flaw = either (place_flaw column first) (new_key_flaw seen part.key) in
    let read = value_after_key left below first.indent first.number (past_blanks part.behind) body in
    let b = bound (beside (fault_with first.number flaw) read) (λ v. Ok (key_text part.key, v)) pair (rw k at e) in
    let s = beside_none first.number flaw read b.x b.first in
    let two = either_none (place_flaw column first) (new_key_flaw seen part.key) s.0 in
    let place = place_none column first two.0 in
    let new = new_key_none seen part.key two.1 in
    let at = eqb-true first.indent column place.1 in
    let m = value_meant left below column first.number (past_blanks part.behind) body b.x sound w
    (subst (λ c. value_after_key left below c first.number (past_blanks part.behind) body ≡ Ok b.x) at s.1) in
    let read_is : (key_text part.key, b.x) ≡ pair = let t = b.then_ in cc in
    let same : (new.key, b.x) ≡ pair = ap (λ x. (key_text x, b.x)) (sym new.is) ∙ read_is in
    subst (EntryMeant left column seen first body) same
    (record {
      behind = part.behind;
      no_tab = place.0;
      at = at;
      keyed = k ∙ ap (λ x. let p : KeyPart = record { key = x; behind = part.behind } in Some p) new.is;
      fresh = new.fresh;
      means = m.means;
      within = m.within;
    })

entry_meant : (left : ℕ) (below : Reader) (column : ℕ) (seen : List (List ℕ)) (first : Row) (body : List Row) (pair : List ℕ × YamlTree) → Sound left below → Each (IsBeneath column) body →
    entry_of left below column seen first body ≡ Ok pair → EntryMeant left column seen first body pair
entry_meant left below column seen first body pair sound w e = entry_by (key_part first.text) left below column seen first body pair sound w refl e

pub record EntriesMeant (left column : ℕ) (seen : List (List ℕ)) (rows : List Row) (pairs : List (List ℕ × YamlTree)) : Type 0 where
  pub means : MapEntries column rows (entries_of pairs)
  pub within : entries_depth (entries_of pairs) ≤ left
  pub fresh : are_new seen (keys_of (entries_of pairs)) ≡ true

entries_within : (key : List ℕ) (value : YamlTree) (entries : Entries) (n : ℕ) → depth value ≤ n → entries_depth entries ≤ n → entries_depth (entry key value entries) ≤ n
unfolding depth
entries_within key value entries n h k = max_le (depth value) (entries_depth entries) n h k

no_entries_within : (n : ℕ) → entries_depth no_entry ≤ n
unfolding depth
no_entries_within n = omega arith

no_item_by : (a b : Bool) → (a && b) ≡ false → a ≡ true → b ≡ false
no_item_by true b h k = h
no_item_by false b h k = absurd (cc)

one_entry : (left column : ℕ) (seen : List (List ℕ)) (first : Row) (body rows : List Row) (pair : List ℕ × YamlTree) (pairs : List (List ℕ × YamlTree)) → is_content first ≡ true → is_item_at column first ≡ false → Each (IsBeneath column) body →
    EntryMeant left column seen first body pair → EntriesMeant left column (seen ++ pair.0 ∷ []) rows pairs → EntriesMeant left column seen (first ∷ body ++ rows) (pair ∷ pairs)
one_entry left column seen first body rows pair pairs c i w m more =
    let no_item = no_item_by (nat_eq first.indent column) (begins_item first.text) i (eq-eqb first.indent column m.at) in
    record {
      means = nodes.MapEntries.keyed first body rows (c, m.no_tab, m.at) no_item (key_meant first.text pair.0 m.behind m.keyed) w m.means more.means;
      within = entries_within pair.0 pair.1 (entries_of pairs) left m.within more.within;
      fresh = and_from (not (has_text seen pair.0)) (are_new (seen ++ pair.0 ∷ []) (keys_of (entries_of pairs))) (not_from_false (has_text seen pair.0) m.fresh) more.fresh;
    }

entries_last : (left : ℕ) (below : Reader) (column : ℕ) (seen : List (List ℕ)) (first : Row) (body : List Row) (pairs : List (List ℕ × YamlTree)) → Sound left below → is_content first ≡ true → is_item_at column first ≡ false →
    Each (IsBeneath column) body → all_entries (entry_of left below column) seen ((first, body) ∷ []) ≡ Ok pairs → EntriesMeant left column seen (first ∷ body ++ []) pairs
entries_last left below column seen first body pairs sound c i w e =
    let k = bound (entry_of left below column seen first body) _ pairs e in
    let same : k.x ∷ [] ≡ pairs = let t = k.then_ in cc in
    subst (EntriesMeant left column seen (first ∷ body ++ [])) same
    (one_entry left column seen first body [] k.x [] c i w (entry_meant left below column seen first body k.x sound w k.first)
    (record { means = nodes.MapEntries.no_more; within = no_entries_within left; fresh = refl }))

entries_more : (left : ℕ) (below : Reader) (column : ℕ) (seen : List (List ℕ)) (first : Row) (body rows : List Row) (more : List (Row × List Row)) (pairs : List (List ℕ × YamlTree)) → Sound left below → is_content first ≡ true →
    is_item_at column first ≡ false → Each (IsBeneath column) body →
    ((keys : List (List ℕ)) (es : List (List ℕ × YamlTree)) → all_entries (entry_of left below column) keys more ≡ Ok es → EntriesMeant left column keys rows es) →
    all_entries (entry_of left below column) seen ((first, body) ∷ more) ≡ Ok pairs → EntriesMeant left column seen (first ∷ body ++ rows) pairs
entries_more left below column seen first body rows more pairs sound c i w next e =
    let k = bound (entry_of left below column seen first body) _ pairs e in
    let l = bound (all_entries (entry_of left below column) (seen ++ k.x.0 ∷ []) more) _ pairs k.then_ in
    let same : k.x ∷ l.x ≡ pairs = let t = l.then_ in cc in
    subst (EntriesMeant left column seen (first ∷ body ++ rows)) same
    (one_entry left column seen first body rows k.x l.x c i w (entry_meant left below column seen first body k.x sound w k.first) (next (seen ++ k.x.0 ∷ []) l.x l.first))

entries_row : (t : Bool) (left : ℕ) (below : Reader) (column : ℕ) (seen : List (List ℕ)) (first row : Row) (so_far rows : List Row) (pairs : List (List ℕ × YamlTree)) → Sound left below → is_content first ≡ true →
    is_item_at column first ≡ false → Each (IsBeneath column) so_far → begins_entry column row ≡ t →
    (is_content row ≡ true → is_item_at column row ≡ false → (keys : List (List ℕ)) (es : List (List ℕ × YamlTree)) → all_entries (entry_of left below column) keys (parts (begins_entry column) row [] rows) ≡ Ok es →
    EntriesMeant left column keys (row ∷ rows) es) →
    (Each (IsBeneath column) (so_far ++ row ∷ []) → all_entries (entry_of left below column) seen (parts (begins_entry column) first (so_far ++ row ∷ []) rows) ≡ Ok pairs →
    EntriesMeant left column seen (first ∷ (so_far ++ row ∷ []) ++ rows) pairs) →
    all_entries (entry_of left below column) seen (parts (begins_entry column) first so_far (row ∷ rows)) ≡ Ok pairs → EntriesMeant left column seen (first ∷ so_far ++ row ∷ rows) pairs
entries_row true left below column seen first row so_far rows pairs sound c i w h next grow e =
    let part = (and_parts (begins_part column row) (not (is_item_at column row)) h).0 in
    let no_item = not-true (is_item_at column row) ((and_parts (begins_part column row) (not (is_item_at column row)) h).1) in
    entries_more left below column seen first so_far (row ∷ rows) (parts (begins_entry column) row [] rows) pairs sound c i w (next ((and_parts (is_content row) (nat_le row.indent column) part).0) no_item) (rw h at e)
entries_row false left below column seen first row so_far rows pairs sound c i w h next grow e =
    subst (λ xs. EntriesMeant left column seen (first ∷ xs) pairs) (append_assoc so_far (row ∷ []) rows)
    (grow (each_append (IsBeneath column) so_far (row ∷ []) w (no_entry_beneath column row h, tt)) (rw h at e))

entries_meant : (rows : List Row) (left : ℕ) (below : Reader) (column : ℕ) (seen : List (List ℕ)) (first : Row) (so_far : List Row) (pairs : List (List ℕ × YamlTree)) → Sound left below → is_content first ≡ true →
    is_item_at column first ≡ false → Each (IsBeneath column) so_far → all_entries (entry_of left below column) seen (parts (begins_entry column) first so_far rows) ≡ Ok pairs →
    EntriesMeant left column seen (first ∷ so_far ++ rows) pairs
entries_meant [] left below column seen first so_far pairs sound c i w e = entries_last left below column seen first so_far pairs sound c i w e
entries_meant (row ∷ rows) left below column seen first so_far pairs sound c i w e =
    entries_row (begins_entry column row) left below column seen first row so_far rows pairs sound c i w refl
    (λ k j keys es f. entries_meant rows left below column keys row [] es sound k j tt f)
    (λ k f. entries_meant rows left below column seen first (so_far ++ row ∷ []) pairs sound c i k f) e

no_item_at : (column : ℕ) (first : Row) → begins_item first.text ≡ false → is_item_at column first ≡ false
no_item_at column first h = rw h (and-false (nat_eq first.indent column))

map_meant : (left : ℕ) (below : Reader) (floor : ℕ) (head : Row) (rows : List Row) (value : YamlTree) → Sound left below → is_content head ≡ true → begins_item head.text ≡ false → begins_with_key head.text ≡ true →
    map_of left below head rows ≡ Ok value → NodeMeant (suc left) floor head rows value
map_meant left below floor head rows value sound c h has e =
    let k = bound (all_entries (entry_of left below head.indent) [] (parts (begins_entry head.indent) head [] rows)) _ value e in
    let m = entries_meant rows left below head.indent [] head [] k.x sound c (no_item_at head.indent head h) tt k.first in
    let same : mapping head.number (entries_of k.x) ≡ value = let t = k.then_ in cc in
    subst (NodeMeant (suc left) floor head rows) same (record {
      means = nodes.Node.collection (nodes.Collection.block_map m.means (differ_meant (keys_of (entries_of k.x)) m.fresh));
      within = deeper_by (depth (mapping head.number (entries_of k.x))) (entries_depth (entries_of k.x)) left (map_depth head.number (entries_of k.x)) m.within;
    })

-- ---- all together

alone_node : (left floor : ℕ) (head : Row) (rows : List Row) (value : YamlTree) → begins_collection head.text ≡ false → alone left floor head rows ≡ Ok value → NodeMeant left floor head rows value
alone_node left floor head rows value h e = let m = alone_meant left floor head.number head.indent head.text rows value e in record { means = nodes.Node.alone (stands_alone head.text h) m.means; within = m.within }

node_zero : (t : Bool) (floor : ℕ) (head : Row) (rows : List Row) (value : YamlTree) → begins_collection head.text ≡ t → node zero floor head rows ≡ Ok value → NodeMeant zero floor head rows value
node_zero true floor head rows value h e = let never = rw h at e in absurd (cc)
node_zero false floor head rows value h e = alone_node zero floor head rows value h (rw h at e)

node_more : (t₁ t₂ : Bool) (left floor : ℕ) (head : Row) (rows : List Row) (value : YamlTree) → Sound left (node left) → is_content head ≡ true → begins_item head.text ≡ t₁ → begins_with_key head.text ≡ t₂ →
    cond t₁ (seq_of (node left) head rows) (cond t₂ (map_of left (node left) head rows) (alone (suc left) floor head rows)) ≡ Ok value → NodeMeant (suc left) floor head rows value
node_more true t₂ left floor head rows value sound c h k e = seq_meant left (node left) floor head rows value sound c h e
node_more false true left floor head rows value sound c h k e = map_meant left (node left) floor head rows value sound c h k e
node_more false false left floor head rows value sound c h k e = alone_node (suc left) floor head rows value (or_from (begins_item head.text) (begins_with_key head.text) h k) e

pub node_meant : (left floor : ℕ) (head : Row) (rows : List Row) (value : YamlTree) → is_content head ≡ true → is_tabbed head ≡ false → node left floor head rows ≡ Ok value → NodeMeant left floor head rows value
node_meant zero floor head rows value c t e = node_zero (begins_collection head.text) floor head rows value refl e
node_meant (suc left) floor head rows value c t e = node_more (begins_item head.text) (begins_with_key head.text) left floor head rows value (λ f h rs v k j r. node_meant left f h rs v k j r) c refl refl e
