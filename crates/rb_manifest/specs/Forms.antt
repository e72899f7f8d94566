-- Forms of the values of a manifest, and what is wrong with a value that is to have one. Of one
-- value the flaws stand in the order in which they are looked for.
use Rattle.std.specs.Prelude.{
  ℕ,
  Bool,
  true,
  false,
  not,
  nat_lt,
  List,
  [],
  ◌∷◌,
  ◌++◌,
  length,
  map,
  filter,
  Option,
  Some,
  None,
  unwrap_or,
  bytes_eq,
  if◌then◌else◌,
}
use Rattle.std.specs.List.{flat_map, list_all, list_any}
use Rattle.rb_causes.specs.Texts.{has_text}
use Rattle.rb_yaml.specs.Tree.{YamlTree}
use Rattle.rb_values.specs.Values.{
  Entry,
  text_in,
  items_in,
  entries_in,
  sequence_items,
  map_entries,
  value_at,
  text_at,
}
use Rattle.rb_log.specs.Moves.{is_name}
use Rattle.rb_manifest.specs.declared.manifest_err.ManifestFault.{ManifestFault}
use Rattle.rb_manifest.specs.declared.manifest_err.ManifestFault.TheVariants.{
  OutOfProfile,
  BadShape,
  BadName,
  TooMany,
  Twice,
}

-- ---- forms

-- a test of the texts that stand there
abbrev pub TextTest : Type 0
TextTest = List ℕ → Bool

abbrev pub passes : TextTest → Option (List ℕ) → Bool
passes test None = false
passes test (Some text) = test text

-- a text that passes the test
abbrev pub is_text_with : TextTest → YamlTree → Bool
is_text_with test value = passes test (text_in value)

abbrev pub all_pass : TextTest → Option (List YamlTree) → Bool
all_pass test None = false
all_pass test (Some items) = list_all (is_text_with test) items

-- a sequence of texts that pass it
abbrev pub is_list_with : TextTest → YamlTree → Bool
is_list_with test value = all_pass test (items_in value)

-- ---- a list of entries

-- a key of an entry: what it is called, the form of what stands there, and whether it has to be
-- there
pub record EntryKey : Type 0 where
  pub name : List ℕ
  pub is_formed : YamlTree → Bool
  pub needed : Bool

-- Entries: their keys; the key under which the name of an entry stands; whether that has to be a
-- name as the log has them; and how many entries there may be.
pub record EntryForm : Type 0 where
  pub keys : List EntryKey
  pub name_key : List ℕ
  pub is_strict : Bool
  pub most : ℕ

abbrev pub is_key_formed : EntryKey → Option YamlTree → Bool
is_key_formed key None = not key.needed
is_key_formed key (Some value) = key.is_formed value

-- each key of the entry is there where it is needed, and what stands there has its form
abbrev pub is_entry_formed : List EntryKey → List Entry → Bool
is_entry_formed keys entries =
    list_all (λ key. is_key_formed key (value_at entries key.name)) keys

abbrev pub is_formed_map : List EntryKey → Option (List Entry) → Bool
is_formed_map keys None = false
is_formed_map keys (Some entries) = is_entry_formed keys entries

-- a sequence of maps, each with its keys
abbrev pub are_formed : EntryForm → Option (List YamlTree) → Bool
are_formed form None = false
are_formed form (Some items) =
    list_all (λ item. is_formed_map form.keys (entries_in item)) items

abbrev pub is_known : List EntryKey → Entry → Bool
is_known keys e = list_any (λ key. bytes_eq key.name e.0) keys

-- the names of the entries
abbrev pub entry_names : EntryForm → YamlTree → List (List ℕ)
entry_names form value =
    map (λ item. unwrap_or (text_at (map_entries item) form.name_key) []) (sequence_items value)

-- ---- flaws

abbrev pub Flaws : Type 0
Flaws = List ManifestFault

-- this one, unless the test holds
abbrev pub unless_holds : Bool → ManifestFault → Flaws
unless_holds holds fault = if holds then [] else fault ∷ []

-- keys that are no such keys, as they are written
abbrev pub unknown_of : List EntryKey → List Entry → Flaws
unknown_of keys entries =
    map (λ e. OutOfProfile e.0) (filter (λ e. not (is_known keys e)) entries)

-- those of all entries
abbrev pub unknown_keys : EntryForm → YamlTree → Flaws
unknown_keys form value = unknown_of form.keys (flat_map map_entries (sequence_items value))

abbrev pub bad_names : Bool → List (List ℕ) → Flaws
bad_names false names = []
bad_names true names = map BadName (filter (λ name. not (is_name name)) names)

-- those that stand among the ones before them
abbrev pub repeated : List (List ℕ) → List (List ℕ) → List (List ℕ)
repeated before [] = []
repeated before (name ∷ names) =
    if has_text before name
    then name ∷ repeated (before ++ name ∷ []) names
    else repeated (before ++ name ∷ []) names

-- too many of them, and then those that stand there twice
abbrev pub number_flaws : List ℕ → ℕ → List (List ℕ) → Flaws
number_flaws key most names =
    unless_holds (not (nat_lt most (length names))) (TooMany key) ++ map Twice (repeated [] names)

-- a value of the form
abbrev pub form_flaws : (YamlTree → Bool) → List ℕ → YamlTree → Flaws
form_flaws is_formed key value = unless_holds (is_formed value) (BadShape key)

-- entries: a key that is none, a form that is another, a name that is none, too many, and a name
-- that stands there twice
abbrev pub entry_flaws : EntryForm → List ℕ → YamlTree → Flaws
entry_flaws form key value =
    unknown_keys form value
    ++ (form_flaws (λ v. are_formed form (items_in v)) key value
    ++ (bad_names form.is_strict (entry_names form value)
    ++ number_flaws key form.most (entry_names form value)))
