-- The text of documents holds them, and so is read as them.
use Rattle.std.proofs.Common.{◌≡◌, ◌≤◌, ℕ, suc, ◌+◌, false, nat_eq, codes, List, [], ◌∷◌, ◌++◌, length, refl, sym, ap, subst, ◌∙◌, arith, append_assoc, append-nil}
use Rattle.std.proofs.lemmas.Bool.{and_right}
use Rattle.std.proofs.lemmas.Str.{IsUtf8-append, IsUtf8-nil, is_utf8-from_IsUtf8}
use Rattle.std.specs.Str.{IsUtf8}
use Rattle.std.specs.List.{AllByRecursion as Each}
use Rattle.rb_yaml.specs.Rows.{Row, rows_of, begins}
use Rattle.rb_yaml.specs.Markers.{is_marker}
use Rattle.rb_yaml.specs.Tree.{YamlTree}
use Rattle.rb_yaml.specs.Documents.{has_control, levels, without_mark}
use Rattle.rb_yaml_laws.specs.Bare.{Bare}
use Rattle.rb_yaml_laws.specs.Nodes.{depth, items_depth, entries_depth}
use Rattle.rb_yaml_laws.specs.Docs.{Parted, Bodies, HoldsDocs, Docs}
use Rattle.rb_yaml_laws.proofs.RowFacts.{each_append}
use Rattle.rb_yaml_laws.proofs.DocFacts.{meant_is_read}
use Rattle.rb_canon.specs.Values.{CanonTree, one_text, items_in, fields_in, Canons, no_canon, canon, Fields, no_field, field}
use Rattle.rb_canon.specs.Layout.{Line, line, lines_bytes, lines_of, canon_of, canon_docs_of, most_bytes}
use Rattle.rb_canon_laws.specs.Writable.{IsGood, nesting, items_nesting, fields_nesting, Fits}
use Rattle.rb_canon_laws.specs.Trees.{height, height_behind, tree_at, trees_at, entries_at, tree_behind, docs_at}
use Rattle.rb_canon_laws.specs.Laws.{CanonIsRead}
use Rattle.rb_canon.proofs.Pieces.{bytes_append}
use Rattle.rb_canon.proofs.Heads.{head_of, behind_of, rest_of, split}
use Rattle.rb_canon_laws.proofs.LineRows.{row, rows_at, rows_append}
use Rattle.rb_canon_laws.proofs.KeyLines.{Leads, key_leads, lead_unlike}
use Rattle.rb_canon_laws.proofs.Holds.{node_holds, head_content}
use Rattle.rb_canon_laws.proofs.RowsRead.{Reads, rows_read}
use Rattle.rb_canon_laws.proofs.Clean.{ascii_byte}
use Rattle.rb_canon_laws.proofs.Sound.{marks, Sound, sound_lines, sound_reads, sound_utf8}

-- ---- depth

mutual
  unfolding depth items_depth entries_depth

  depth_is : (n : ℕ) (value : CanonTree) → depth (tree_at n value) ≡ nesting value
  depth_is n (one_text text) = refl
  depth_is n (items_in values) = ap suc (items_depth_is n values)
  depth_is n (fields_in fields) = ap suc (fields_depth_is n fields)

  items_depth_is : (n : ℕ) (values : Canons) → items_depth (trees_at n values) ≡ items_nesting values
  items_depth_is n no_canon = refl
  items_depth_is n (canon value values) =
      let one = depth_is n value in
      let more = items_depth_is (n + height value) values in
      rw (one, more) refl

  fields_depth_is : (n : ℕ) (fields : Fields) → entries_depth (entries_at n fields) ≡ fields_nesting fields
  fields_depth_is n no_field = refl
  fields_depth_is n (field key value fields) =
      let one = behind_depth_is n value in
      let more = fields_depth_is (n + height_behind value) fields in
      rw (one, more) refl

  behind_depth_is : (n : ℕ) (value : CanonTree) → depth (tree_behind n value) ≡ nesting value
  behind_depth_is n (one_text text) = refl
  behind_depth_is n (items_in no_canon) = refl
  behind_depth_is n (items_in (canon value values)) = ap suc (items_depth_is (n + 1) (canon value values))
  behind_depth_is n (fields_in no_field) = refl
  behind_depth_is n (fields_in (field key value fields)) = ap suc (fields_depth_is (n + 1) (field key value fields))

-- ---- the lines of all documents

abbrev mark_line : Line
mark_line = line 0 (45 ∷ 45 ∷ 45 ∷ [])

abbrev all_lines : List CanonTree → List Line
all_lines [] = []
all_lines (value ∷ []) = lines_of 0 value
all_lines (value ∷ next ∷ values) = lines_of 0 value ++ mark_line ∷ all_lines (next ∷ values)

all_bytes : (values : List CanonTree) → lines_bytes (all_lines values) ≡ canon_docs_of values
all_bytes [] = refl
all_bytes (value ∷ []) = refl
all_bytes (value ∷ next ∷ values) =
    bytes_append (lines_of 0 value) (mark_line ∷ all_lines (next ∷ values))
    ∙ ap (λ (xs : List ℕ). canon_of value ++ (45 ∷ 45 ∷ 45 ∷ 10 ∷ xs)) (all_bytes (next ∷ values))
    ∙ sym (append_assoc (canon_of value) (45 ∷ 45 ∷ 45 ∷ 10 ∷ []) (canon_docs_of (next ∷ values)))

-- what is shown of each line but a marker, shown of all
all_each : (P : Line → Type 0) → P mark_line → ((value : CanonTree) → IsGood value → Each P (lines_of 0 value)) → (values : List CanonTree) → Each IsGood values → Each P (all_lines values)
all_each P m f [] g = tt
all_each P m f (value ∷ []) g = f value g.0
all_each P m f (value ∷ next ∷ values) g = each_append P (lines_of 0 value) (mark_line ∷ all_lines (next ∷ values)) (f value g.0) (m, all_each P m f (next ∷ values) g.1)

-- ---- bodies

-- the rows of each document; no row with content stands behind the last
abbrev bodies_at : ℕ → List CanonTree → List Row → List (List Row)
bodies_at n [] tail = tail ∷ []
bodies_at n (value ∷ []) tail = (rows_at n (lines_of 0 value) ++ tail) ∷ []
bodies_at n (value ∷ next ∷ values) tail = rows_at n (lines_of 0 value) ∷ bodies_at (n + height value + 1) (next ∷ values) tail

abbrev NoMarker : Row → Type 0
NoMarker r = is_marker r ≡ false

no_markers : (n : ℕ) (ls : List Line) → Each Sound ls → Each NoMarker (rows_at n ls)
no_markers n [] h = tt
no_markers n (l ∷ ls) h = (and_right (nat_eq l.indent 0) (marks l.text) h.0.mark, no_markers (n + 1) ls h.1)

-- the rows of more documents, cut at the mark behind the first
cut_mark : (n : ℕ) (value : CanonTree) (more : List Line) (tail : List Row) →
    rows_at n (lines_of 0 value) ++ (row (n + height value) 0 (45 ∷ 45 ∷ 45 ∷ []) ∷ (rows_at (n + height value + 1) more ++ tail))
    ≡ rows_at n (lines_of 0 value ++ mark_line ∷ more) ++ tail
cut_mark n value more tail =
    sym (
    ap (λ (rs : List Row). rs ++ tail) (rows_append n (lines_of 0 value) (mark_line ∷ more))
    ∙ append_assoc (rows_at n (lines_of 0 value)) (rows_at (n + height value) (mark_line ∷ more)) tail)

parted : (n : ℕ) (values : List CanonTree) (tail : List Row) → Each IsGood values → Each NoMarker tail → Parted (rows_at n (all_lines values) ++ tail) (bodies_at n values tail)
parted n [] tail g h = Parted.last h
parted n (value ∷ []) tail g h = Parted.last (each_append NoMarker (rows_at n (lines_of 0 value)) tail (no_markers n (lines_of 0 value) (sound_lines 0 value g.0)) h)
parted n (value ∷ next ∷ values) tail g h =
    subst (λ (rs : List Row). Parted rs (bodies_at n (value ∷ next ∷ values) tail)) (cut_mark n value (all_lines (next ∷ values)) tail)
    (Parted.more (rows_at n (lines_of 0 value)) (row (n + height value) 0 (45 ∷ 45 ∷ 45 ∷ [])) (rows_at (n + height value + 1) (all_lines (next ∷ values)) ++ tail)
    (no_markers n (lines_of 0 value) (sound_lines 0 value g.0)) refl refl refl
    (parted (n + height value + 1) (next ∷ values) tail g.1 h))

depth_short : (n : ℕ) (value : CanonTree) → nesting value ≤ levels → depth (tree_at n value) ≤ 32
unfolding levels
depth_short n value h = rw (depth_is n value) h

one_body : (n : ℕ) (value : CanonTree) (tail : List Row) (bodies : List (List Row)) (docs : List YamlTree) → IsGood value → nesting value ≤ levels → Bare tail → Bodies bodies docs →
    Bodies ((rows_at n (lines_of 0 value) ++ tail) ∷ bodies) (tree_at n value ∷ docs)
one_body n value tail bodies docs g d b more =
    let content = head_content n 0 value g in
    subst (λ (ls : List Line). Bodies ((rows_at n ls ++ tail) ∷ bodies) (tree_at n value ∷ docs)) (sym (split 0 value))
    (Bodies.document [] (row n 0 (head_of value)) (rows_at (n + 1) (rest_of 0 value) ++ tail) tt content.0 content.1
    (node_holds 0 n 0 value tail g b) (depth_short n value d) more)

held : (n : ℕ) (values : List CanonTree) (tail : List Row) → Each IsGood values → Each (λ value. nesting value ≤ levels) values → Bare tail → Bodies (bodies_at n values tail) (docs_at n values)
held n [] tail g d b = Bodies.passed b Bodies.no_body
held n (value ∷ []) tail g d b = one_body n value tail [] [] g.0 d.0 b Bodies.no_body
held n (value ∷ next ∷ values) tail g d b =
    subst (λ (rs : List Row). Bodies (rs ∷ bodies_at (n + height value + 1) (next ∷ values) tail) (docs_at n (value ∷ next ∷ values))) (append-nil (rows_at n (lines_of 0 value)))
    (one_body n value [] (bodies_at (n + height value + 1) (next ∷ values) tail) (docs_at (n + height value + 1) (next ∷ values)) g.0 d.0 tt
    (held (n + height value + 1) (next ∷ values) tail g.1 d.1 b))

-- ---- the whole text

abbrev NoControl : Row → Type 0
NoControl r = has_control r.text ≡ false

clean_lines : (ls : List Line) → Each Sound ls → Each (λ (l : Line). has_control l.text ≡ false) ls
clean_lines [] h = tt
clean_lines (l ∷ ls) h = (h.0.inside.control, clean_lines ls h.1)

marks_utf8 : IsUtf8 (codes "---\n")
marks_utf8 =
    IsUtf8-append (45 ∷ 45 ∷ 45 ∷ []) (10 ∷ [])
    (IsUtf8-append (45 ∷ []) (45 ∷ 45 ∷ []) (ascii_byte 45 (omega arith)) (IsUtf8-append (45 ∷ []) (45 ∷ []) (ascii_byte 45 (omega arith)) (ascii_byte 45 (omega arith))))
    (ascii_byte 10 (omega arith))

no_controls : (n : ℕ) (ls : List Line) → Each (λ l. has_control l.text ≡ false) ls → Each NoControl (rows_at n ls)
no_controls n [] h = tt
no_controls n (l ∷ ls) h = (h.0, no_controls (n + 1) ls h.1)

-- the first byte is not that of a byte order mark
first_by : (text more : List ℕ) → Leads text → begins 239 (text ++ more) ≡ false
first_by text more h = subst (λ (t : List ℕ). begins 239 (t ++ more) ≡ false) (sym h.is) (lead_unlike h.first 239 h.leads refl)

head_first : (value : CanonTree) (more : List ℕ) → IsGood value → begins 239 (head_of value ++ more) ≡ false
head_first (one_text text) more g = refl
head_first (items_in no_canon) more g = refl
head_first (items_in (canon value values)) more g = refl
head_first (fields_in no_field) more g = refl
head_first (fields_in (field key value fields)) more g = first_by (head_of (fields_in (field key value fields))) more (key_leads key g.1.0 (behind_of value))

one_first : (value : CanonTree) (more : List ℕ) → IsGood value → begins 239 (canon_of value ++ more) ≡ false
one_first value more g =
    ap (λ (ls : List Line). begins 239 (lines_bytes ls ++ more)) (split 0 value)
    ∙ ap (begins 239)
    (append_assoc (head_of value ++ 10 ∷ []) (lines_bytes (rest_of 0 value)) more
    ∙ append_assoc (head_of value) (10 ∷ []) (lines_bytes (rest_of 0 value) ++ more))
    ∙ head_first value (10 ∷ (lines_bytes (rest_of 0 value) ++ more)) g

text_first : (values : List CanonTree) → Each IsGood values → begins 239 (canon_docs_of values) ≡ false
text_first [] g = refl
text_first (value ∷ []) g = ap (begins 239) (sym (append-nil (canon_of value))) ∙ one_first value [] g.0
text_first (value ∷ next ∷ values) g =
    ap (begins 239) (append_assoc (canon_of value) (codes "---\n") (canon_docs_of (next ∷ values)))
    ∙ one_first value (codes "---\n" ++ canon_docs_of (next ∷ values)) g.0

no_mark : (bytes : List ℕ) → begins 239 bytes ≡ false → without_mark bytes ≡ bytes
no_mark bytes h = rw h refl

text_rows : (values : List CanonTree) → Each IsGood values →
    rows_of (without_mark (canon_docs_of values)) ≡ rows_at 1 (all_lines values) ++ row (1 + length (all_lines values)) 0 [] ∷ []
text_rows values g =
    ap rows_of (no_mark (canon_docs_of values) (text_first values g) ∙ sym (all_bytes values))
    ∙ rows_read 1 (all_lines values) (all_each (λ l. Reads l) (record { lead = refl; whole = refl }) (λ value good. sound_reads (lines_of 0 value) (sound_lines 0 value good)) values g)

docs_utf8 : (values : List CanonTree) → Each IsGood values → IsUtf8 (canon_docs_of values)
docs_utf8 [] g = IsUtf8-nil
docs_utf8 (value ∷ []) g = sound_utf8 (lines_of 0 value) (sound_lines 0 value g.0)
docs_utf8 (value ∷ next ∷ values) g =
    IsUtf8-append (canon_of value ++ codes "---\n") (canon_docs_of (next ∷ values))
    (IsUtf8-append (canon_of value) (codes "---\n") (sound_utf8 (lines_of 0 value) (sound_lines 0 value g.0)) marks_utf8) (docs_utf8 (next ∷ values) g.1)

bare_end : (n : ℕ) → Bare (row n 0 [] ∷ [])
bare_end n = (refl, tt)

unmarked_end : (n : ℕ) → Each NoMarker (row n 0 [] ∷ [])
unmarked_end n = (refl, tt)

rows_hold : (values : List CanonTree) → Fits values → HoldsDocs (rows_at 1 (all_lines values) ++ row (1 + length (all_lines values)) 0 [] ∷ []) (docs_at 1 values)
rows_hold values f =
    let last = 1 + length (all_lines values) in
    record {
      no_control = each_append NoControl (rows_at 1 (all_lines values)) (row last 0 [] ∷ [])
          (no_controls 1 (all_lines values) (all_each (λ l. has_control l.text ≡ false) refl (λ value good. clean_lines (lines_of 0 value) (sound_lines 0 value good)) values f.good))
          (refl, tt);
      bodies = bodies_at 1 values (row last 0 [] ∷ []);
      parted = parted 1 values (row last 0 [] ∷ []) f.good (unmarked_end last);
      held = held 1 values (row last 0 [] ∷ []) f.good f.shallow (bare_end last);
    }

text_holds : (values : List CanonTree) → Fits values → Docs (canon_docs_of values) (docs_at 1 values)
unfolding most_bytes
text_holds values f = record {
  short = f.short;
  encoded = is_utf8-from_IsUtf8 (canon_docs_of values) (docs_utf8 values f.good);
  lines = subst (λ (rs : List Row). HoldsDocs rs (docs_at 1 values)) (sym (text_rows values f.good)) (rows_hold values f);
}

pub canon_is_read : CanonIsRead
canon_is_read values f = meant_is_read (canon_docs_of values) (docs_at 1 values) (text_holds values f)
