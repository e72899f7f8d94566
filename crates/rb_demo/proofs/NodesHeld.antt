-- The nodes' text holds the map of all nodes, by the cases of the relation.
use Rattle.std.proofs.Common.{◌≡◌, ◌≢◌, inl, inr, ℕ, zero, suc, ◌≤◌, ◌<◌, ◌+◌, ◌*◌, ◌^◌, Bool, true, false, List, [], ◌∷◌, ◌++◌, map, length, get_or, drop, codes, decimal, refl, sym, ap, subst, ◌∙◌, arith}
use Rattle.std.proofs.lemmas.Fmt.{decimal_injective, length-decimal-le}
use Rattle.std.proofs.lemmas.List.{length-append}
use Rattle.std.specs.List.{AllByRecursion as Each}
use Rattle.rb_causes.specs.Signs.{colon, closing_brace}
use Rattle.rb_causes.specs.Numbers.{numbers_from}
use Rattle.rb_yaml.specs.Rows.{Row, row_of, rows_of, numbered}
use Rattle.rb_yaml.specs.Signs.{ends_sign}
use Rattle.rb_yaml.specs.Documents.{has_control}
use Rattle.rb_yaml.specs.Markers.{is_marker}
use Rattle.rb_yaml_laws.specs.Bare.{Bare, IsWithin}
use Rattle.rb_yaml_laws.specs.InFlow.{FlowScalar, IsFlowItem, InFlow}
use Rattle.rb_yaml_laws.specs.Keys.{HasHash, IsFirstColon, Key, Differ}
use Rattle.rb_yaml_laws.specs.Says.{Alone}
use Rattle.rb_yaml_laws.specs.Nodes.{Node, Collection, MapEntries, Value, keys_of, depth, entries_depth}
use Rattle.rb_yaml_laws.specs.Docs.{Parted, Bodies, HoldsDocs, Docs}
use Rattle.rb_yaml_laws.proofs.RowFacts.{each_append, each_weak, each_right}
use Rattle.rb_demo.specs.Numbers.{demo_node_name, node_tag, tag_by, is_even, draw_at}
use Rattle.rb_demo.specs.Texts.{lines, demo_node_line, demo_nodes_text}
use Rattle.rb_demo.specs.Trees.{node_tree, node_entries, nodes_doc}
use Rattle.rb_demo.proofs.Visible.{IsSeen, IsDigit, decimal_digits, digits_seen, no_control, no_return, split_lines, lines_utf8, all_kept, seen_by_test}

-- what stands behind a node's colon
abbrev behind_colon : ℕ → List ℕ
behind_colon number = codes " {tags: " ++ (node_tag number ++ codes "}")

-- ---- its key

no_hash : (digits : List ℕ) → Each IsDigit digits → HasHash digits → ⊥
no_hash digits h k = omega (arith, (each_right IsDigit k.front (k.blank ∷ 35 ∷ k.behind) (subst (Each IsDigit) k.is h)).1.0.0)

first_colon : (digits : List ℕ) → Each IsDigit digits → (behind before after : List ℕ) → digits ++ colon ∷ behind ≡ before ++ colon ∷ after → length digits ≤ length before
first_colon [] h behind before after e = omega arith
first_colon (d ∷ digits) h behind [] after e = let is : d ≡ 58 = ap (λ xs. get_or xs 0 0) e in absurd (omega (arith, is, h.0.1))
first_colon (d ∷ digits) h behind (c ∷ before) after e = omega (arith, first_colon digits h.1 behind before after (ap (drop 1) e))

is_first_colon : (digits behind : List ℕ) → Each IsDigit digits → ends_sign behind ≡ true → IsFirstColon digits behind
is_first_colon digits behind h ends = record {
  ends = ends;
  no_comment = no_hash digits h;
  first = λ before after e k. first_colon digits h behind before after e;
}

-- a letter and digits are the key before their colon
name_is_key : (digits behind : List ℕ) → Each IsDigit digits → ends_sign behind ≡ true → Key (110 ∷ digits ++ colon ∷ behind) (110 ∷ digits) behind
name_is_key digits behind h ends =
    let kept = all_kept (110 ∷ digits) (omega arith, each_weak IsDigit (λ b. 33 ≤ b) (λ b d. omega (arith, d.0)) digits h) in
    Key.plain 110 digits refl refl (is_first_colon digits behind h ends) (inr (rw kept refl, sym kept))

-- ---- its value

tags_flow : (even : Bool) → InFlow closing_brace (codes "tags: " ++ (tag_by even ++ codes "}")) ((codes "tags", tag_by even) ∷ []) []
tags_flow true =
    InFlow.last (IsFlowItem.in_map (FlowScalar.plain (refl, refl, refl, refl, refl, refl) refl refl (inr (refl, refl))) refl (inl refl)
    (FlowScalar.plain (refl, refl, refl, refl, refl, refl) refl refl (inr (refl, refl)))) refl
tags_flow false =
    InFlow.last (IsFlowItem.in_map (FlowScalar.plain (refl, refl, refl, refl, refl, refl) refl refl (inr (refl, refl))) refl (inl refl)
    (FlowScalar.plain (refl, refl, refl, refl, refl, refl) refl refl (inr (refl, refl)))) refl

-- ---- rows

abbrev node_row : ℕ → Row
node_row number = record { number = number; indent = 0; text = demo_node_line number }

-- an empty row behind the last line's end
abbrev last_row : ℕ → Row
last_row number = record { number = number; indent = 0; text = [] }

abbrev node_rows : ℕ → ℕ → List Row
node_rows first zero = last_row first ∷ []
node_rows first (suc count) = node_row first ∷ node_rows (first + 1) count

rest_seen : (even : Bool) → Each IsSeen (codes ": {tags: " ++ (tag_by even ++ codes "}"))
rest_seen true = seen_by_test (codes ": {tags: even}") refl
rest_seen false = seen_by_test (codes ": {tags: odd}") refl

line_seen : (number : ℕ) → number < 2 ^ 64 → Each IsSeen (demo_node_line number)
line_seen number small =
    ((omega arith, omega arith), each_append IsSeen (decimal number) (codes ": {tags: " ++ (node_tag number ++ codes "}")) (digits_seen (decimal number) (decimal_digits number small)) (rest_seen (is_even (draw_at number))))

lines_seen : (first count : ℕ) → first + count < 2 ^ 64 → Each (Each IsSeen) (map demo_node_line (numbers_from first count))
lines_seen first zero small = tt
lines_seen first (suc count) small = (line_seen first (omega arith), lines_seen (first + 1) count (omega arith))

numbered_lines : (first count : ℕ) → first + count < 2 ^ 64 → numbered first (map demo_node_line (numbers_from first count) ++ [] ∷ []) ≡ node_rows first count
numbered_lines first zero small = refl
numbered_lines first (suc zero) small = ap (λ line. row_of first line ∷ last_row (first + 1) ∷ []) (no_return (demo_node_line first) (line_seen first (omega arith)))
numbered_lines first (suc (suc count)) small =
    (λ i. row_of first (no_return (demo_node_line first) (line_seen first (omega arith)) i) ∷ numbered_lines (first + 1) (suc count) (omega arith) i)

rows_are : (nodes : ℕ) → nodes < 2 ^ 32 → rows_of (demo_nodes_text nodes) ≡ node_rows 1 nodes
rows_are nodes small = ap (numbered 1) (split_lines (map demo_node_line (numbers_from 1 nodes)) (lines_seen 1 nodes (omega arith))) ∙ numbered_lines 1 nodes (omega arith)

-- ---- what each row is

rows_clean : (first count : ℕ) → first + count < 2 ^ 64 → Each (λ row. has_control row.text ≡ false) (node_rows first count)
rows_clean first zero small = (refl, tt)
rows_clean first (suc count) small = (no_control (demo_node_line first) (line_seen first (omega arith)), rows_clean (first + 1) count (omega arith))

no_marker : (first count : ℕ) → Each (λ row. is_marker row ≡ false) (node_rows first count)
no_marker first zero = (refl, tt)
no_marker first (suc count) = (refl, no_marker (first + 1) count)

-- ---- the map

row_value : (number : ℕ) (rows : List Row) → Bare rows → Each (IsWithin 0) rows → Value 0 number (codes "{tags: " ++ (node_tag number ++ codes "}")) rows (node_tree number)
row_value number rows bare within = Value.behind_key refl within (Alone.flow_map (tags_flow (is_even (draw_at number))) refl bare (tt, tt))

row_key : (number : ℕ) → number < 2 ^ 64 → Key (demo_node_line number) (demo_node_name number) (behind_colon number)
row_key number small = name_is_key (decimal number) (behind_colon number) (decimal_digits number small) refl

map_held : (first count : ℕ) → first + count < 2 ^ 63 → MapEntries 0 (node_rows first (suc count)) (node_entries first (suc count))
map_held first zero small =
    MapEntries.keyed (node_row first) (last_row (first + 1) ∷ []) [] (refl, refl, refl) refl (row_key first (omega arith)) (inl (inl refl), tt)
    (row_value first (last_row (first + 1) ∷ []) (refl, tt) (inl refl, tt)) MapEntries.no_more
map_held first (suc count) small =
    MapEntries.keyed (node_row first) [] (node_rows (first + 1) (suc count)) (refl, refl, refl) refl (row_key first (omega arith)) tt
    (row_value first [] tt tt) (map_held (first + 1) count (omega arith))

names_apart : (number first count : ℕ) → number < first → first + count < 2 ^ 63 → Each (λ other. demo_node_name number ≢ other) (keys_of (node_entries first count))
names_apart number first zero less small = tt
names_apart number first (suc count) less small =
    ((λ e. omega (arith, less, decimal_injective number first (omega arith) (omega arith) (ap (drop 1) e))), names_apart number (first + 1) count (omega arith) (omega arith))

names_differ : (first count : ℕ) → first + count < 2 ^ 63 → Differ (keys_of (node_entries first count))
names_differ first zero small = tt
names_differ first (suc count) small = (names_apart first (first + 1) count (omega arith) (omega arith), names_differ (first + 1) count (omega arith))

shallow : (first count : ℕ) → entries_depth (node_entries first count) ≤ 1
unfolding depth
shallow first zero = omega arith
shallow first (suc count) = omega (arith, shallow (first + 1) count)

doc_shallow : (nodes : ℕ) → depth (nodes_doc nodes) ≤ 32
unfolding depth
doc_shallow nodes = omega (arith, shallow 1 nodes)

-- ---- the whole text

rest_short : (even : Bool) → length (codes ": {tags: " ++ (tag_by even ++ codes "}")) ≤ 14
rest_short true = omega arith
rest_short false = omega arith

line_short : (number : ℕ) → number < 10 ^ 9 → length (demo_node_line number) ≤ 30
line_short number small =
    omega (arith, length-append (decimal number) (codes ": {tags: " ++ (node_tag number ++ codes "}")), length-decimal-le 9 number (omega arith) small (omega arith), rest_short (is_even (draw_at number)))

pub lines_short : (first count : ℕ) → first + count < 10 ^ 9 → length (lines (map demo_node_line (numbers_from first count))) ≤ 31 * count
lines_short first zero small = omega arith
lines_short first (suc count) small =
    omega (arith, length-append (demo_node_line first) (10 ∷ lines (map demo_node_line (numbers_from (first + 1) count))), line_short first (omega arith), lines_short (first + 1) count (omega arith))

-- the text holds one document, the map of all nodes
pub nodes_held : (nodes : ℕ) → 1 ≤ nodes → nodes ≤ 1000 → Docs (demo_nodes_text nodes) (nodes_doc nodes ∷ [])
nodes_held zero some few = absurd (omega arith)
nodes_held (suc nodes) some few = record {
  short = omega (arith, lines_short 1 (suc nodes) (omega arith));
  encoded = lines_utf8 (map demo_node_line (numbers_from 1 (suc nodes))) (lines_seen 1 (suc nodes) (omega arith));
  lines = subst (λ rows. HoldsDocs rows (nodes_doc (suc nodes) ∷ [])) (sym (rows_are (suc nodes) (omega arith))) (record {
    no_control = rows_clean 1 (suc nodes) (omega arith);
    bodies = node_rows 1 (suc nodes) ∷ [];
    parted = Parted.last (no_marker 1 (suc nodes));
    held = Bodies.document [] (node_row 1) (node_rows 2 nodes) tt refl refl
        (Node.collection (Collection.block_map (map_held 1 nodes (omega arith)) (names_differ 1 (suc nodes) (omega arith))))
        (doc_shallow (suc nodes)) Bodies.no_body;
  });
}
