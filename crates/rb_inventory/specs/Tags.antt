-- The tags of a node.
use Rattle.std.specs.Prelude.{ℕ, not, List, [], Option, Some, None, map, filter, find, option_map, unwrap_or, if◌then◌else◌}
use Rattle.std.specs.List.{list_all}
use Rattle.std.specs.Option.{option_and_then}
use Rattle.rb_causes.specs.Texts.{trimmed, is_empty, comma_items, is_tags}
use Rattle.rb_yaml.specs.Tree.{YamlTree}
use Rattle.rb_node.specs.Tags.{once}
use Rattle.rb_values.specs.Values.{Entry, text_in, items_in, is_text, scalar_or_empty}

-- trimmed, without empty ones
abbrev pub filled : List (List ℕ) → List (List ℕ)
filled texts = filter (λ t. not (is_empty t)) (map trimmed texts)

-- the tags of a list; None where one of its items is no text
abbrev pub listed_tags : List YamlTree → Option (List (List ℕ))
listed_tags items =
    if list_all is_text items then Some (filled (map scalar_or_empty items)) else None

abbrev pub tags_by : Option (List ℕ) → Option (List YamlTree) → Option (List (List ℕ))
tags_by (Some text) items = Some (comma_items text)
tags_by None (Some items) = listed_tags items
tags_by None None = None

-- the tags that a value writes: a text between its commas, or a list of texts; None where it is
-- neither
abbrev pub written_tags : YamlTree → Option (List (List ℕ))
written_tags value = tags_by (text_in value) (items_in value)

-- the value under `tags`
abbrev pub tags_value : List Entry → Option YamlTree
tags_value entries = option_map (λ e. e.1) (find (λ e. is_tags e.0) entries)

-- the tags that one attribute writes
abbrev pub entry_tags : Entry → Option (List (List ℕ))
entry_tags e = if is_tags e.0 then written_tags e.1 else None

-- the tags that are written under `tags`
abbrev pub tags_under : List Entry → Option (List (List ℕ))
tags_under entries = option_and_then written_tags (tags_value entries)

-- the tags of a node with these attributes: what stands under `tags`, each once
abbrev pub tags_of : List Entry → List (List ℕ)
tags_of entries = once (unwrap_or (tags_under entries) [])
