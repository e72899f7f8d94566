-- What an inventory is, and what a refusal tells, whatever the documents are.
use Rattle.std.specs.Prelude.{◌≡◌, ◌≤◌, ℕ, Bool, true, not, ◌&&◌, List, [], ◌∷◌, ◌++◌, length, map, Option, Some, None, Ok, Err, is_none}
use Rattle.std.specs.List.{list_all}
use Rattle.rb_causes.specs.Texts.{differ, has_text, is_empty}
use Rattle.rb_causes.specs.Words.{words_of}
use Rattle.rb_causes.specs.declared.items.Prop.{Prop}
use Rattle.rb_yaml.specs.Tree.{YamlTree}
use Rattle.rb_node.specs.declared.node.Node.{Node}
use Rattle.rb_inventory.specs.declared.fault.NodeFault.{NodeFault}
use Rattle.rb_inventory.specs.declared.inventory.Inventory.{Inventory}
use Rattle.rb_values.specs.Values.{Entry}
use Rattle.rb_inventory.specs.Attributes.{is_exec, is_kept}
use Rattle.rb_inventory.specs.Listings.{ListedNode, listings_of, attributes_of}
use Rattle.rb_inventory.specs.Inventories.{names_of, fault_behind, first_listed_fault, inventory_of}

-- the names of an inventory differ
abbrev pub NamesDiffer : Type 0
NamesDiffer =
    (docs : List YamlTree) (inventory : Inventory) → inventory_of docs ≡ Ok inventory →
    differ (names_of inventory.nodes) ≡ true

-- an inventory has at most 10,000 nodes
abbrev pub NodesAreFew : Type 0
NodesAreFew =
    (docs : List YamlTree) (inventory : Inventory) → inventory_of docs ≡ Ok inventory →
    length inventory.nodes ≤ 10000

-- a tag that is some text
abbrev pub is_filled_tag : List ℕ → Bool
is_filled_tag tag = not (is_empty tag)

-- the tags differ, and none is empty
abbrev pub has_sound_tags : Node → Bool
has_sound_tags node = differ node.tags && list_all is_filled_tag node.tags

-- neither the tags nor the node's own name, and no quote of the prefix words is open
abbrev pub is_sound_prop : Prop → Bool
is_sound_prop p = is_kept p.key && not (is_exec p.key && is_none (words_of p.text))

abbrev pub has_sound_parts : Node → Bool
has_sound_parts node = has_sound_tags node && list_all is_sound_prop node.attrs

-- each node of an inventory is sound
abbrev pub NodesAreSound : Type 0
NodesAreSound =
    (docs : List YamlTree) (inventory : Inventory) → inventory_of docs ≡ Ok inventory →
    list_all has_sound_parts inventory.nodes ≡ true

-- a refusal names what the documents list
abbrev pub FaultIsListed : Type 0
FaultIsListed =
    (docs : List YamlTree) (fault : NodeFault) → inventory_of docs ≡ Err fault →
    has_text (map (λ l. l.0) (listings_of docs)) fault.node ≡ true

-- Where a refusal comes from: of what the documents list the first that is faulty, behind what is
-- not.
pub record IsFirstNodeFault (docs : List YamlTree) (fault : NodeFault) : Type 0 where
  pub before : List ListedNode
  pub listing : ListedNode
  pub behind : List ListedNode
  pub listed : listings_of docs ≡ before ++ listing ∷ behind
  pub sound : first_listed_fault [] before ≡ None
  pub faulty : fault_behind (map (λ l. l.0) before) listing ≡ Some fault

-- a refusal tells the fault of the first faulty listing
abbrev pub FaultIsFirst : Type 0
FaultIsFirst =
    (docs : List YamlTree) (fault : NodeFault) → inventory_of docs ≡ Err fault →
    IsFirstNodeFault docs fault

-- the keys of a map differ
abbrev pub has_apart_keys : Option (List Entry) → Bool
has_apart_keys None = true
has_apart_keys (Some entries) = differ (map (λ e. e.0) entries)

-- so they do in the map of each node that the documents list
abbrev pub have_apart_keys : List YamlTree → Bool
have_apart_keys docs = list_all (λ l. has_apart_keys (attributes_of l.1)) (listings_of docs)

abbrev pub has_apart_attributes : Node → Bool
has_apart_attributes node = differ (map (λ p. p.key) node.attrs)

-- then the keys of the attributes of each node differ
abbrev pub AttributesDiffer : Type 0
AttributesDiffer =
    (docs : List YamlTree) (inventory : Inventory) → have_apart_keys docs ≡ true →
    inventory_of docs ≡ Ok inventory → list_all has_apart_attributes inventory.nodes ≡ true
