-- The inventory of documents, or the fault of the first faulty node.
use Rattle.std.specs.Option.{option_or}
use Rattle.std.specs.Prelude.{◌≡◌, ℕ, Bool, ◌&&◌, nat_le, List, [], ◌∷◌, ◌++◌, length, Option, Some, None, option_map, is_some, map, Result, Ok, Err, if◌then◌else◌}
use Rattle.rb_causes.specs.Texts.{has_text}
use Rattle.rb_causes.specs.Causes.{unless}
use Rattle.rb_yaml.specs.Tree.{YamlTree}
use Rattle.rb_node.specs.declared.node.Node.{Node}
use Rattle.rb_inventory.specs.declared.fault.NodeErr.{NodeErr}
use Rattle.rb_inventory.specs.declared.fault.NodeErr.TheVariants as errors
use Rattle.rb_inventory.specs.declared.fault.NodeFault.{NodeFault}
use Rattle.rb_inventory.specs.declared.fault.NodeKind.{NodeKind}
use Rattle.rb_inventory.specs.declared.fault.NodeKind.TheVariants.{TooMany, Twice}
use Rattle.rb_inventory.specs.declared.inventory.Inventory.{Inventory}
use Rattle.rb_inventory.specs.Listings.{ListedNode, listings_of, value_flaw, node_of}

abbrev pub names_of : List Node → List (List ℕ)
names_of nodes = map (λ n. n.name) nodes

-- how many nodes an inventory has at most
unfoldable pub most_nodes : ℕ
most_nodes = 10000

-- the name stands above; a document that is no map has none
abbrev pub is_repeated : List (List ℕ) → ListedNode → Bool
is_repeated names listing = is_some listing.1 && has_text names listing.0

-- what is wrong with a listing behind nodes of these names
abbrev pub flaw_behind : List (List ℕ) → ListedNode → Option NodeKind
flaw_behind names listing =
    if nat_le most_nodes (length names) then Some TooMany
    else if is_repeated names listing then Some Twice
    else value_flaw listing.1

-- the node of a listing, or what is wrong with it, behind nodes of these names
abbrev pub read_behind : List (List ℕ) → ListedNode → Result Node NodeKind
read_behind names listing = unless (flaw_behind names listing) (node_of listing)

abbrev pub fault_behind : List (List ℕ) → ListedNode → Option NodeFault
fault_behind names listing =
    option_map (λ kind. record { node = listing.0; kind = kind }) (flaw_behind names listing)

-- the fault of the first faulty listing, behind nodes of these names
abbrev pub first_listed_fault : List (List ℕ) → List ListedNode → Option NodeFault
first_listed_fault names [] = None
first_listed_fault names (l ∷ ls) =
    option_or (fault_behind names l) (first_listed_fault (names ++ l.0 ∷ []) ls)

abbrev pub inventory_or : Option NodeFault → List Node → Result Inventory NodeFault
inventory_or None nodes = Ok (record { nodes = nodes })
inventory_or (Some fault) nodes = Err fault

-- a node for each listing in the order of the documents, unless a listing is faulty
abbrev pub inventory_of : List YamlTree → Result Inventory NodeFault
inventory_of docs =
    inventory_or (first_listed_fault [] (listings_of docs)) (map node_of (listings_of docs))

-- the fault that is told is that of the reading, and want of memory says nothing
abbrev pub FailsInventory : NodeErr → Result Inventory NodeFault → Type 0
FailsInventory errors.NoMemory read = Unit {0}
FailsInventory (errors.Fault fault) read = read ≡ Err fault

-- What was returned is what the reading gives, unless memory ran out.
abbrev pub GivesInventory : Result Inventory NodeErr → Result Inventory NodeFault → Type 0
GivesInventory (Ok inventory) read = read ≡ Ok inventory
GivesInventory (Err e) read = FailsInventory e read
