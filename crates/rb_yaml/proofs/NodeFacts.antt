-- Nodes: the steps of their readers.
use Rattle.std.proofs.Common.{◌≡◌, ℕ, zero, suc, ◌+◌, ◌-◌, ◌<◌, ◌≤◌, Bool, true, false, List, [], ◌∷◌, ◌++◌, cond, length, get_or, drop, map, subst, unwrap_or, Some, None, Result, Ok, Err, refl, ap, sym, ◌∙◌, append_assoc, append-nil, arith}
use Rattle.std.proofs.lemmas.List.{drop-drop, drop_at, drop_more, drop_all, drop-map}
use Rattle.rb_yaml.specs.declared.flaw.Flaw.TheVariants.{TooDeep}
use Rattle.rb_yaml.specs.declared.flaw.Fault.{Fault}
use Rattle.rb_yaml.specs.declared.flaw.Stop.{Stop}
use Rattle.rb_yaml.specs.declared.flaw.Stop.TheVariants.{At, NoMemory}
use Rattle.rb_yaml.specs.Faults.{◌>>=◌, fault_at, IsStopOf}
use Rattle.rb_yaml.specs.Rows.{Row}
use Rattle.rb_yaml.specs.Parts.{until, onward, parts}
use Rattle.rb_yaml.specs.Signs.{begins_item}
use Rattle.rb_yaml.specs.Line.{behind_item}
use Rattle.rb_yaml.specs.Edges.{begins_part, begins_entry}
use Rattle.rb_yaml.specs.Keys.{begins_with_key}
use Rattle.rb_yaml.specs.Scalars.{TreeReading}
use Rattle.rb_yaml.specs.Tree.{YamlTree, seq, mapping, trees_of, entries_of}
use Rattle.rb_yaml.specs.Alone.{Reader, alone}
use Rattle.rb_yaml.specs.Deep.{deep_turn, deep_turns, too_deep}
use Rattle.rb_yaml.specs.Nodes.{all_items, item_of, seq_of, entry_of, all_entries, map_of, node}

-- ---- parts

-- the parts from the first row that begins one
abbrev pub more_parts : (Row → Bool) → List Row → List (Row × List Row)
more_parts test [] = []
more_parts test (row ∷ rows) = parts test row [] rows

parts_cons : (t : Bool) (test : Row → Bool) (head row : Row) (so_far rows : List Row) → test row ≡ t →
    ((more : List Row) → parts test head more rows ≡ (head, more ++ until test rows) ∷ more_parts test (onward test rows)) →
    parts test head so_far (row ∷ rows) ≡ (head, so_far ++ until test (row ∷ rows)) ∷ more_parts test (onward test (row ∷ rows))
parts_cons true test head row so_far rows h more = rw h (ap (λ xs. (head, xs) ∷ parts test row [] rows) (sym (append-nil so_far)))
parts_cons false test head row so_far rows h more =
    rw h (more (so_far ++ row ∷ []) ∙ ap (λ xs. (head, xs) ∷ more_parts test (onward test rows)) (append_assoc so_far (row ∷ []) (until test rows)))

pub parts_split : (test : Row → Bool) (head : Row) (so_far rows : List Row) → parts test head so_far rows ≡ (head, so_far ++ until test rows) ∷ more_parts test (onward test rows)
parts_split test head so_far [] = ap (λ xs. (head, xs) ∷ []) (sym (append-nil so_far))
parts_split test head so_far (row ∷ rows) = parts_cons (test row) test head row so_far rows refl (λ more. parts_split test head more rows)

-- the first part, and those behind it
pub parts_first : (test : Row → Bool) (head : Row) (rows : List Row) → parts test head [] rows ≡ (head, until test rows) ∷ more_parts test (onward test rows)
parts_first test head rows = parts_split test head [] rows

-- ---- too deep

deep_at : (n at : ℕ) (row : Row) (rows : List Row) → at < n → too_deep (n - at) row rows ≡ unwrap_or (deep_turn row rows) (too_deep (n - (at + 1)) (behind_item row) rows)
unfolding deep_turns
deep_at n at row rows l = let e : n - at ≡ suc (n - (at + 1)) = omega arith in ap (λ fuel. too_deep fuel row rows) e

pub deep_found : (n at : ℕ) (row : Row) (rows : List Row) (fault all : Fault) → at < n → deep_turn row rows ≡ Some fault → too_deep (n - at) row rows ≡ all → fault ≡ all
deep_found n at row rows fault all l h same =
    sym (ap (λ o. unwrap_or o (too_deep (n - (at + 1)) (behind_item row) rows)) h) ∙ sym (deep_at n at row rows l) ∙ same

pub deep_more : (n at : ℕ) (row next : Row) (rows : List Row) (all : Fault) → at < n → deep_turn row rows ≡ None → next ≡ behind_item row → too_deep (n - at) row rows ≡ all → too_deep (n - (at + 1)) next rows ≡ all
deep_more n at row next rows all l h is_next same =
    ap (λ r. too_deep (n - (at + 1)) r rows) is_next ∙ sym (ap (λ o. unwrap_or o (too_deep (n - (at + 1)) (behind_item row) rows)) h) ∙ sym (deep_at n at row rows l) ∙ same

deep_zero : (row : Row) (rows : List Row) → too_deep zero row rows ≡ fault_at row.number TooDeep
unfolding deep_turns
deep_zero row rows = refl

pub deep_end : (n at : ℕ) (row : Row) (rows : List Row) (all : Fault) → n - at ≡ zero → too_deep (n - at) row rows ≡ all → fault_at row.number TooDeep ≡ all
deep_end n at row rows all none same = sym (deep_zero row rows) ∙ sym (ap (λ fuel. too_deep fuel row rows) none) ∙ same

onward_cons : (t : Bool) (test : Row → Bool) (row : Row) (rows : List Row) → test row ≡ t → rows ≡ until test rows ++ onward test rows → row ∷ rows ≡ until test (row ∷ rows) ++ onward test (row ∷ rows)
onward_cons true test row rows h same = rw h refl
onward_cons false test row rows h same = rw h (ap (λ xs. row ∷ xs) same)

until_onward : (test : Row → Bool) (rows : List Row) → rows ≡ until test rows ++ onward test rows
until_onward test [] = refl
until_onward test (row ∷ rows) = onward_cons (test row) test row rows refl (until_onward test rows)

-- what is from the first row on that begins a part
onward_at : (test : Row → Bool) (lines rest body : List Row) (at : ℕ) → rest ≡ drop at lines → body ≡ until test rest → onward test rest ≡ drop (at + length body) lines
onward_at test lines rest body at is_rest is_body =
    sym (drop_at (until test rest) (onward test rest) (length body) (sym (ap length is_body)))
    ∙ ap (drop (length body)) (sym (until_onward test rest) ∙ is_rest) ∙ drop-drop (length body) at lines

-- one part more, and a row that begins the next
pub parts_more : (test : Row → Bool) (made more : List (Row × List Row)) (first next : Row) (lines rest body : List Row) (at : ℕ) (part : Row × List Row) (all : List (Row × List Row)) →
    rest ≡ drop at lines → body ≡ until test rest → at + length body < length lines → next ≡ get_or lines (at + length body) next →
    part ≡ (first, body) → more ≡ made ++ part ∷ [] →
    made ++ parts test first [] (drop at lines) ≡ all → more ++ parts test next [] (drop (at + length body + 1) lines) ≡ all
parts_more test made more first next lines rest body at part all is_rest is_body l is_next is_part is_more same =
    let behind : onward test (drop at lines) ≡ next ∷ drop (at + length body + 1) lines =
    ap (onward test) (sym is_rest) ∙ onward_at test lines rest body at is_rest is_body ∙ drop_more lines (at + length body) next l
    ∙ ap (λ row. row ∷ drop (at + length body + 1) lines) (sym is_next) in
    ap (λ xs. xs ++ parts test next [] (drop (at + length body + 1) lines)) is_more
    ∙ append_assoc made (part ∷ []) (parts test next [] (drop (at + length body + 1) lines))
    ∙ ap (λ p. made ++ p ∷ parts test next [] (drop (at + length body + 1) lines)) (is_part ∙ ap (λ xs. (first, xs)) (is_body ∙ ap (until test) is_rest))
    ∙ ap (λ xs. made ++ (first, until test (drop at lines)) ∷ more_parts test xs) (sym behind)
    ∙ ap (λ xs. made ++ xs) (sym (parts_first test first (drop at lines))) ∙ same

-- the last part
pub parts_last : (test : Row → Bool) (made more : List (Row × List Row)) (first : Row) (lines rest body : List Row) (at : ℕ) (part : Row × List Row) (all : List (Row × List Row)) →
    rest ≡ drop at lines → body ≡ until test rest → length lines ≤ at + length body →
    part ≡ (first, body) → more ≡ made ++ part ∷ [] →
    made ++ parts test first [] (drop at lines) ≡ all → more ≡ all
parts_last test made more first lines rest body at part all is_rest is_body whole is_part is_more same =
    let behind : onward test (drop at lines) ≡ [] =
    ap (onward test) (sym is_rest) ∙ onward_at test lines rest body at is_rest is_body ∙ drop_all (at + length body) lines whole in
    is_more ∙ ap (λ p. made ++ p ∷ []) (is_part ∙ ap (λ xs. (first, xs)) (is_body ∙ ap (until test) is_rest))
    ∙ ap (λ xs. made ++ (first, until test (drop at lines)) ∷ more_parts test xs) (sym behind)
    ∙ ap (λ xs. made ++ xs) (sym (parts_first test first (drop at lines))) ∙ same

-- ---- items, one after the other

-- a reading with more items before it
abbrev pub with_trees : List YamlTree → Result (List YamlTree) Fault → Result (List YamlTree) Fault
with_trees before read = read >>= λ vs. Ok (before ++ vs)

tree_onto : (before : List YamlTree) (v : YamlTree) (read : Result (List YamlTree) Fault) → with_trees before (read >>= λ vs. Ok (v ∷ vs)) ≡ with_trees (before ++ v ∷ []) read
tree_onto before v (Ok vs) = ap Ok (sym (append_assoc before (v ∷ []) vs))
tree_onto before v (Err e) = refl

item_read : (read : Row → List Row → TreeReading) (part : Row × List Row) (v : YamlTree) (rest : List (Row × List Row)) → read part.0 part.1 ≡ Ok v →
    all_items read (part ∷ rest) ≡ (all_items read rest >>= λ vs. Ok (v ∷ vs))
item_read read part v rest h = ap (λ r. r >>= λ x. all_items read rest >>= λ vs. Ok (x ∷ vs)) h

-- one item more
pub items_more : (read : Row → List Row → TreeReading) (before more : List YamlTree) (v : YamlTree) (part : Row × List Row) (rest : List (Row × List Row)) (all : Result (List YamlTree) Fault) →
    read part.0 part.1 ≡ Ok v → more ≡ before ++ v ∷ [] → with_trees before (all_items read (part ∷ rest)) ≡ all → with_trees more (all_items read rest) ≡ all
items_more read before more v part rest all h is_more same =
    ap (λ xs. with_trees xs (all_items read rest)) is_more ∙ sym (tree_onto before v (all_items read rest)) ∙ sym (ap (with_trees before) (item_read read part v rest h)) ∙ same

-- an item's fault is that of all
pub items_stop : (read : Row → List Row → TreeReading) (stop : Stop Fault) (before : List YamlTree) (part : Row × List Row) (rest : List (Row × List Row)) (all : Result (List YamlTree) Fault) →
    IsStopOf stop (read part.0 part.1) → with_trees before (all_items read (part ∷ rest)) ≡ all → IsStopOf stop all
items_stop read NoMemory before part rest all h same = tt
items_stop read (At e) before part rest all h same =
    sym same ∙ ap (λ r. with_trees before (r >>= λ x. all_items read rest >>= λ vs. Ok (x ∷ vs))) h

-- ---- entries, one after the other

abbrev pub EntryReader : Type 0
EntryReader = List (List ℕ) → Row → List Row → Result (List ℕ × YamlTree) Fault

-- a reading with more entries before it
abbrev pub with_entries : List (List ℕ × YamlTree) → Result (List (List ℕ × YamlTree)) Fault → Result (List (List ℕ × YamlTree)) Fault
with_entries before read = read >>= λ es. Ok (before ++ es)

entry_onto : (before : List (List ℕ × YamlTree)) (e : List ℕ × YamlTree) (read : Result (List (List ℕ × YamlTree)) Fault) →
    with_entries before (read >>= λ es. Ok (e ∷ es)) ≡ with_entries (before ++ e ∷ []) read
entry_onto before e (Ok es) = ap Ok (sym (append_assoc before (e ∷ []) es))
entry_onto before e (Err f) = refl

entry_read : (read : EntryReader) (keys : List (List ℕ)) (part : Row × List Row) (e : List ℕ × YamlTree) (rest : List (Row × List Row)) → read keys part.0 part.1 ≡ Ok e →
    all_entries read keys (part ∷ rest) ≡ (all_entries read (keys ++ e.0 ∷ []) rest >>= λ es. Ok (e ∷ es))
entry_read read keys part e rest h = ap (λ r. r >>= λ x. all_entries read (keys ++ x.0 ∷ []) rest >>= λ es. Ok (x ∷ es)) h

-- one entry more
pub entries_more : (read : EntryReader) (keys : List (List ℕ)) (before more : List (List ℕ × YamlTree)) (e : List ℕ × YamlTree) (part : Row × List Row) (rest : List (Row × List Row)) (all : Result (List (List ℕ × YamlTree)) Fault) →
    read keys part.0 part.1 ≡ Ok e → more ≡ before ++ e ∷ [] → with_entries before (all_entries read keys (part ∷ rest)) ≡ all → with_entries more (all_entries read (keys ++ e.0 ∷ []) rest) ≡ all
entries_more read keys before more e part rest all h is_more same =
    ap (λ xs. with_entries xs (all_entries read (keys ++ e.0 ∷ []) rest)) is_more ∙ sym (entry_onto before e (all_entries read (keys ++ e.0 ∷ []) rest))
    ∙ sym (ap (with_entries before) (entry_read read keys part e rest h)) ∙ same

-- an entry's fault is that of all
pub entries_stop : (read : EntryReader) (keys : List (List ℕ)) (stop : Stop Fault) (before : List (List ℕ × YamlTree)) (part : Row × List Row) (rest : List (Row × List Row)) (all : Result (List (List ℕ × YamlTree)) Fault) →
    IsStopOf stop (read keys part.0 part.1) → with_entries before (all_entries read keys (part ∷ rest)) ≡ all → IsStopOf stop all
entries_stop read keys NoMemory before part rest all h same = tt
entries_stop read keys (At f) before part rest all h same =
    sym same ∙ ap (λ r. with_entries before (r >>= λ x. all_entries read (keys ++ x.0 ∷ []) rest >>= λ es. Ok (x ∷ es))) h

-- ---- nodes by their levels

pub node_map : (left floor : ℕ) (head : Row) (rows : List Row) → (left ≡ 0 → ⊥) → begins_item head.text ≡ false → begins_with_key head.text ≡ true → map_of (left - 1) (node (left - 1)) head rows ≡ node left floor head rows
node_map zero floor head rows some item key = absurd (some refl)
node_map (suc n) floor head rows some item key =
    let e : suc n - 1 ≡ n = omega arith in
    ap (λ k. map_of k (node k) head rows) e
    ∙ sym (ap (λ t. cond t (seq_of (node n) head rows) (cond (begins_with_key head.text) (map_of n (node n) head rows) (alone (suc n) floor head rows))) item
    ∙ ap (λ t. cond t (map_of n (node n) head rows) (alone (suc n) floor head rows)) key)

pub node_alone : (left floor : ℕ) (head : Row) (rows : List Row) → (left ≡ 0 → ⊥) → begins_item head.text ≡ false → begins_with_key head.text ≡ false → alone left floor head rows ≡ node left floor head rows
node_alone zero floor head rows some item key = absurd (some refl)
node_alone (suc n) floor head rows some item key =
    sym (ap (λ t. cond t (seq_of (node n) head rows) (cond (begins_with_key head.text) (map_of n (node n) head rows) (alone (suc n) floor head rows))) item
    ∙ ap (λ t. cond t (map_of n (node n) head rows) (alone (suc n) floor head rows)) key)

-- ---- the parts of a list that is seen

pub part_at : {A : Type 0} (view : A → Row × List Row) (xs : List A) (i : ℕ) (x : A) → i < length xs → x ≡ get_or xs i x → drop i (map view xs) ≡ view x ∷ drop (i + 1) (map view xs)
part_at view xs i x l is_x =
    drop-map view i xs ∙ ap (map view) (drop_more xs i x l) ∙ ap (λ y. view y ∷ map view (drop (i + 1) xs)) (sym is_x) ∙ ap (λ ys. view x ∷ ys) (sym (drop-map view (i + 1) xs))

stop_bind : {A B : Type 0} (stop : Stop Fault) (read : Result A Fault) (f : A → Result B Fault) → IsStopOf stop read → IsStopOf stop (read >>= f)
stop_bind NoMemory read f h = tt
stop_bind (At e) read f h = ap (λ r. r >>= f) h

-- an item's fault is the sequence's
pub seq_stop : (below : Reader) (head : Row) (rows : List Row) (indent : ℕ) (ps : List (Row × List Row)) (stop : Stop Fault) → indent ≡ head.indent → ps ≡ parts (begins_part indent) head [] rows →
    IsStopOf stop (all_items (item_of below indent) ps) → IsStopOf stop (seq_of below head rows)
seq_stop below head rows indent ps stop is_indent is_ps h =
    let same : all_items (item_of below indent) ps ≡ all_items (item_of below head.indent) (parts (begins_part head.indent) head [] rows) =
    ap (all_items (item_of below indent)) is_ps ∙ ap (λ n. all_items (item_of below n) (parts (begins_part n) head [] rows)) is_indent in
    stop_bind stop (all_items (item_of below head.indent) (parts (begins_part head.indent) head [] rows)) (λ vs. Ok (seq head.number (trees_of vs)))
    (subst (λ (r : Result (List YamlTree) Fault). IsStopOf stop r) same h)

-- an entry's fault is the map's
pub map_stop : (left : ℕ) (below : Reader) (head : Row) (rows : List Row) (indent : ℕ) (ps : List (Row × List Row)) (stop : Stop Fault) → indent ≡ head.indent → ps ≡ parts (begins_entry indent) head [] rows →
    IsStopOf stop (all_entries (entry_of left below indent) [] ps) → IsStopOf stop (map_of left below head rows)
map_stop left below head rows indent ps stop is_indent is_ps h =
    let same : all_entries (entry_of left below indent) [] ps ≡ all_entries (entry_of left below head.indent) [] (parts (begins_entry head.indent) head [] rows) =
    ap (all_entries (entry_of left below indent) []) is_ps ∙ ap (λ n. all_entries (entry_of left below n) [] (parts (begins_entry n) head [] rows)) is_indent in
    stop_bind stop (all_entries (entry_of left below head.indent) [] (parts (begins_entry head.indent) head [] rows)) (λ es. Ok (mapping head.number (entries_of es)))
    (subst (λ (r : Result (List (List ℕ × YamlTree)) Fault). IsStopOf stop r) same h)
