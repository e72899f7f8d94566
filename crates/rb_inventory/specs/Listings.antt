-- What documents list as nodes.
use Rattle.std.specs.Prelude.{ℕ, List, [], ◌∷◌, ◌++◌, Option, Some, None, Result, map, unwrap_or, if◌then◌else◌}
use Rattle.rb_causes.specs.Texts.{is_empty}
use Rattle.rb_causes.specs.Causes.{unless}
use Rattle.rb_yaml.specs.Tree.{YamlTree, scalar, seq, mapping}
use Rattle.rb_node.specs.declared.node.Node.{Node}
use Rattle.rb_inventory.specs.declared.fault.NodeKind.{NodeKind}
use Rattle.rb_inventory.specs.declared.fault.NodeKind.TheVariants.{NotMap}
use Rattle.rb_values.specs.Values.{Entry, entry_list, entries_in}
use Rattle.rb_inventory.specs.Tags.{tags_of}
use Rattle.rb_inventory.specs.Attributes.{attrs_of, first_flaw}

-- a name with the value of its node; a document that is no map lists one node without a value,
-- under the empty name
abbrev pub ListedNode : Type 0
ListedNode = List ℕ × Option YamlTree

abbrev pub entry_listing : Entry → ListedNode
entry_listing e = (e.0, Some e.1)

abbrev pub listings_by : Option (List Entry) → List ListedNode
listings_by None = ([], None) ∷ []
listings_by (Some entries) = map entry_listing entries

-- what documents list, in their order
abbrev pub listings_of : List YamlTree → List ListedNode
listings_of [] = []
listings_of (doc ∷ docs) = listings_by (entries_in doc) ++ listings_of docs

-- the attributes that the value of a node holds: a map's entries, and none in an empty text
abbrev pub attributes_in : YamlTree → Option (List Entry)
attributes_in (scalar line text) = if is_empty text then Some [] else None
attributes_in (seq line items) = None
attributes_in (mapping line entries) = Some (entry_list entries)

abbrev pub attributes_of : Option YamlTree → Option (List Entry)
attributes_of None = None
attributes_of (Some value) = attributes_in value

abbrev pub flaw_of : Option (List Entry) → Option NodeKind
flaw_of None = Some NotMap
flaw_of (Some entries) = first_flaw entries

-- what is wrong with the value of a node: it is no map, or an attribute is faulty
abbrev pub value_flaw : Option YamlTree → Option NodeKind
value_flaw value = flaw_of (attributes_of value)

abbrev pub node_with : List ℕ → List Entry → Node
node_with name entries = record { name = name; attrs = attrs_of entries; tags = tags_of entries }

-- the node of a listing
abbrev pub node_of : ListedNode → Node
node_of listing = node_with listing.0 (unwrap_or (attributes_of listing.1) [])

-- the node of a listing, or what is wrong with its value
abbrev pub node_read : ListedNode → Result Node NodeKind
node_read listing = unless (value_flaw listing.1) (node_of listing)
