-- The text of canonical documents.
use Rattle.std.specs.Prelude.{ℕ, ◌+◌, ◌^◌, nat_eq, codes, List, [], ◌∷◌, ◌++◌, replicate, if◌then◌else◌}
use Rattle.rb_causes.specs.Signs.{tab, line_feed, space, double_quote, hyphen, colon, backslash}
use Rattle.rb_canon.specs.Values.{CanonKey, plain, quoted, CanonTree, one_text, items_in, fields_in, Canons, no_canon, canon, Fields, no_field, field}

-- ---- texts in double quotes

-- a line feed, a tab, a backslash and a double quote stand behind a backslash
abbrev pub escaped_byte : ℕ → List ℕ
escaped_byte b =
    if nat_eq b line_feed then codes "\\n"
    else if nat_eq b tab then codes "\\t"
    else if nat_eq b backslash then codes "\\\\"
    else if nat_eq b double_quote then codes "\\\""
    else b ∷ []

abbrev pub escapes : List ℕ → List ℕ
escapes [] = []
escapes (b ∷ bs) = escaped_byte b ++ escapes bs

abbrev pub in_quotes : List ℕ → List ℕ
in_quotes text = double_quote ∷ escapes text ++ double_quote ∷ []

abbrev pub key_shown : CanonKey → List ℕ
key_shown (plain key) = key
key_shown (quoted key) = in_quotes key

-- ---- lines

-- a line: how many blanks it begins with, and what stands behind these
pub record Line : Type 0 where
  pub indent : ℕ
  pub text : List ℕ

abbrev pub line : ℕ → List ℕ → Line
line indent text = record { indent = indent; text = text }

-- the lines of an item, with the sign of an item before the first; they stand two blanks deeper
abbrev pub marked : ℕ → List Line → List Line
marked indent [] = []
marked indent (first ∷ lines) = line indent (hyphen ∷ space ∷ first.text) ∷ lines

abbrev mutual
  -- The lines of a value at an indent. A text, an empty list and an empty map take one line.
  pub lines_of : ℕ → CanonTree → List Line
  lines_of indent (one_text text) = line indent (in_quotes text) ∷ []
  lines_of indent (items_in no_canon) = line indent (codes "[]") ∷ []
  lines_of indent (items_in (canon value values)) = item_lines indent (canon value values)
  lines_of indent (fields_in no_field) = line indent (codes "{}") ∷ []
  lines_of indent (fields_in (field key value fields)) =
      field_lines indent (field key value fields)

  pub item_lines : ℕ → Canons → List Line
  item_lines indent no_canon = []
  item_lines indent (canon value values) =
      marked indent (lines_of (indent + 2) value) ++ item_lines indent values

  pub field_lines : ℕ → Fields → List Line
  field_lines indent no_field = []
  field_lines indent (field key value fields) =
      lines_behind indent (key_shown key ++ colon ∷ []) value ++ field_lines indent fields

  -- A key with its value: one that takes one line stands behind the key, any other on the lines
  -- below it, two blanks deeper.
  pub lines_behind : ℕ → List ℕ → CanonTree → List Line
  lines_behind indent key (one_text text) = line indent (key ++ space ∷ in_quotes text) ∷ []
  lines_behind indent key (items_in no_canon) = line indent (key ++ codes " []") ∷ []
  lines_behind indent key (items_in (canon value values)) =
      line indent key ∷ item_lines (indent + 2) (canon value values)
  lines_behind indent key (fields_in no_field) = line indent (key ++ codes " {}") ∷ []
  lines_behind indent key (fields_in (field first value fields)) =
      line indent key ∷ field_lines (indent + 2) (field first value fields)

-- ---- documents

abbrev pub line_bytes : Line → List ℕ
line_bytes line = replicate line.indent space ++ line.text ++ line_feed ∷ []

abbrev pub lines_bytes : List Line → List ℕ
lines_bytes [] = []
lines_bytes (line ∷ lines) = line_bytes line ++ lines_bytes lines

-- the text of one value
abbrev pub canon_of : CanonTree → List ℕ
canon_of value = lines_bytes (lines_of 0 value)

-- the text of documents, parted by `---`; of none no bytes
abbrev pub canon_docs_of : List CanonTree → List ℕ
canon_docs_of [] = []
canon_docs_of (value ∷ []) = canon_of value
canon_docs_of (value ∷ next ∷ values) =
    canon_of value ++ codes "---\n" ++ canon_docs_of (next ∷ values)

-- how many bytes a text may have
unfoldable pub most_bytes : ℕ
most_bytes = 2 ^ 20
