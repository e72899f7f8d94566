-- Which values canonical documents can hold.
use Rattle.std.specs.Prelude.{◌≡◌, ◌≤◌, ℕ, suc, max, Bool, true, false, not, ◌||◌, ◌&&◌, nat_eq, List, [], ◌∷◌, length}
use Rattle.std.specs.List.{list_all, AllByRecursion as Each}
use Rattle.std.specs.Str.{is_utf8}
use Rattle.rb_causes.specs.Signs.{line_feed}
use Rattle.rb_causes.specs.Numbers.{is_letter}
use Rattle.rb_causes.specs.Texts.{is_empty, differ}
use Rattle.rb_yaml.specs.Documents.{begins_control, levels}
use Rattle.rb_yaml.specs.Tree.{YamlTree, Trees, Entries, scalar, seq, mapping, no_tree, tree, no_entry, entry}
use Rattle.rb_canon.specs.Values.{CanonKey, plain, quoted, key_text, CanonTree, one_text, items_in, fields_in, Canons, no_canon, canon, Fields, no_field, field}
use Rattle.rb_canon.specs.Layout.{canon_docs_of, most_bytes}

-- no control character but tab and line feed stands in the text
abbrev pub is_clean : List ℕ → Bool
is_clean [] = true
is_clean (b ∷ bs) = (nat_eq b line_feed || not (begins_control (b ∷ bs))) && is_clean bs

-- a text that a document can hold: UTF-8, without control characters but tab and line feed
pub record IsWritable (text : List ℕ) : Type 0 where
  pub encoded : is_utf8 text ≡ true
  pub clean : is_clean text ≡ true

-- a key that a document can hold: where it is plain, a word of letters of ASCII
abbrev pub IsWritableKey : CanonKey → Type 0
IsWritableKey (plain key) = (is_empty key ≡ false) × (list_all is_letter key ≡ true)
IsWritableKey (quoted key) = IsWritable key

-- what the keys of a map say, in their order
abbrev pub keys_of_fields : Fields → List (List ℕ)
keys_of_fields no_field = []
keys_of_fields (field key value fields) = key_text key ∷ keys_of_fields fields

-- each text and each key of a value can be held, and no map has a key twice
abbrev mutual
  pub IsGood : CanonTree → Type 0
  IsGood (one_text text) = IsWritable text
  IsGood (items_in values) = AreGood values
  IsGood (fields_in fields) = (differ (keys_of_fields fields) ≡ true) × HaveGood fields

  pub AreGood : Canons → Type 0
  AreGood no_canon = Unit {0}
  AreGood (canon value values) = IsGood value × AreGood values

  pub HaveGood : Fields → Type 0
  HaveGood no_field = Unit {0}
  HaveGood (field key value fields) = IsWritableKey key × IsGood value × HaveGood fields

-- how deep the lists and maps of a value nest
abbrev mutual
  pub nesting : CanonTree → ℕ
  nesting (one_text text) = 0
  nesting (items_in values) = suc (items_nesting values)
  nesting (fields_in fields) = suc (fields_nesting fields)

  pub items_nesting : Canons → ℕ
  items_nesting no_canon = 0
  items_nesting (canon value values) = max (nesting value) (items_nesting values)

  pub fields_nesting : Fields → ℕ
  fields_nesting no_field = 0
  fields_nesting (field key value fields) = max (nesting value) (fields_nesting fields)

-- Values that a text of canonical documents can hold: it is not too large for the reader, no value
-- nests too deep, and each can be held.
pub record Fits (values : List CanonTree) : Type 0 where
  pub short : length (canon_docs_of values) ≤ most_bytes
  pub shallow : Each (λ value. nesting value ≤ levels) values
  pub good : Each IsGood values

-- each text and each key of a tree is one that a document can hold
abbrev mutual
  pub TreeIsWritable : YamlTree → Type 0
  TreeIsWritable (scalar line text) = IsWritable text
  TreeIsWritable (seq line items) = TreesAreWritable items
  TreeIsWritable (mapping line entries) = EntriesAreWritable entries

  pub TreesAreWritable : Trees → Type 0
  TreesAreWritable no_tree = Unit {0}
  TreesAreWritable (tree value values) = TreeIsWritable value × TreesAreWritable values

  pub EntriesAreWritable : Entries → Type 0
  EntriesAreWritable no_entry = Unit {0}
  EntriesAreWritable (entry key value entries) =
      IsWritable key × TreeIsWritable value × EntriesAreWritable entries
