-- The texts of values: of a text or a sequence of texts, and what stands so under a key.
use Rattle.std.specs.Prelude.{ℕ, Bool, false, ◌||◌, List, [], ◌∷◌, Option, Some, None, map, unwrap_or}
use Rattle.std.specs.List.{list_all}
use Rattle.rb_yaml.specs.Tree.{YamlTree}
use Rattle.rb_values.specs.Values.{Entry, text_in, items_in, is_text, scalar_or_empty, sequence_items, value_at, text_at}

abbrev pub all_texts : Option (List YamlTree) → Bool
all_texts None = false
all_texts (Some items) = list_all is_text items

-- a text, or a sequence of texts
abbrev pub holds_texts : YamlTree → Bool
holds_texts value = is_text value || all_texts (items_in value)

abbrev pub texts_by : Option (List ℕ) → List YamlTree → List (List ℕ)
texts_by (Some text) items = text ∷ []
texts_by None items = map scalar_or_empty items

-- the one text, or the texts of the sequence
abbrev pub texts_in_value : YamlTree → List (List ℕ)
texts_in_value value = texts_by (text_in value) (sequence_items value)

abbrev pub texts_in : Option YamlTree → List (List ℕ)
texts_in None = []
texts_in (Some value) = texts_in_value value

-- the texts under a key
abbrev pub texts_at : List Entry → List ℕ → List (List ℕ)
texts_at entries key = texts_in (value_at entries key)

-- the text under a key, or the empty one
abbrev pub text_or_empty : List Entry → List ℕ → List ℕ
text_or_empty entries key = unwrap_or (text_at entries key) []
