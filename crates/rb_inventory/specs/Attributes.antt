-- The attributes of a node, and what is wrong with one.
use Rattle.std.specs.Prelude.{ℕ, Bool, not, ◌||◌, ◌&&◌, List, [], ◌∷◌, Option, Some, None, Result, is_some, is_none, map, filter, bytes_eq, codes, if◌then◌else◌}
use Rattle.std.specs.Option.{option_or}
use Rattle.rb_causes.specs.Words.{words_of}
use Rattle.rb_causes.specs.declared.items.Prop.{Prop}
use Rattle.rb_causes.specs.Texts.{is_tags}
use Rattle.rb_causes.specs.Causes.{unless}
use Rattle.rb_yaml.specs.Tree.{YamlTree}
use Rattle.rb_node.specs.Nodes.{is_own_name}
use Rattle.rb_inventory.specs.declared.fault.NodeKind.{NodeKind}
use Rattle.rb_inventory.specs.declared.fault.NodeKind.TheVariants.{BadTags, BadValue, BadExec}
use Rattle.rb_inventory.specs.declared.attributes.Attributes.{Attributes}
use Rattle.rb_values.specs.Values.{Entry, text_in, scalar_or_empty}
use Rattle.rb_inventory.specs.Tags.{written_tags, tags_under}

-- the attribute whose text is read as words
abbrev pub is_exec : List ℕ → Bool
is_exec key = bytes_eq key (codes "desk-exec")

-- an attribute that a node keeps: the tags stand apart, and the node's own name stands for its two
-- names
abbrev pub is_kept : List ℕ → Bool
is_kept key = not (is_tags key || is_own_name key)

abbrev pub entry_prop : Entry → Prop
entry_prop e = record { key = e.0; text = scalar_or_empty e.1 }

-- what a node keeps of a text under a key other than `tags`
abbrev pub kept_text : List ℕ → List ℕ → List Prop
kept_text key text = if is_own_name key then [] else record { key = key; text = text } ∷ []

-- the attributes that are kept, as written
abbrev pub attrs_of : List Entry → List Prop
attrs_of entries = map entry_prop (filter (λ e. is_kept e.0) entries)

-- what is wrong under a key other than `tags`: no text, or an open quote in the prefix words
abbrev pub plain_value_flaw : List ℕ → Option (List ℕ) → Option NodeKind
plain_value_flaw key None = Some BadValue
plain_value_flaw key (Some text) =
    if is_exec key && is_none (words_of text) then Some BadExec else None

-- what is wrong with the value under `tags`
abbrev pub tags_flaw : YamlTree → Option NodeKind
tags_flaw value = if is_some (written_tags value) then None else Some BadTags

-- what is wrong with an attribute: tags are texts, all else is one text, and the quotes of `desk-
-- exec` are closed
abbrev pub attribute_flaw : Entry → Option NodeKind
attribute_flaw e =
    if is_tags e.0 then tags_flaw e.1 else plain_value_flaw e.0 (text_in e.1)

-- what is wrong with the first faulty attribute as written
abbrev pub first_flaw : List Entry → Option NodeKind
first_flaw [] = None
first_flaw (e ∷ es) = option_or (attribute_flaw e) (first_flaw es)

-- what the attributes come to, or what is wrong with the first faulty one
abbrev pub attributes_read : List Entry → Result Attributes NodeKind
attributes_read entries =
    unless (first_flaw entries) (record { kept = attrs_of entries; tags = tags_under entries })
