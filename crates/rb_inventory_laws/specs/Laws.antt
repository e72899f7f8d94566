-- What an inventory is whose documents were read of a text.
use Rattle.std.specs.Prelude.{◌≡◌, ℕ, true, List, Ok}
use Rattle.std.specs.List.{list_all}
use Rattle.rb_yaml.specs.Tree.{YamlTree}
use Rattle.rb_yaml.specs.Documents.{docs_of}
use Rattle.rb_inventory.specs.declared.inventory.Inventory.{Inventory}
use Rattle.rb_inventory.specs.Inventories.{inventory_of}
use Rattle.rb_inventory.specs.Laws.{has_apart_attributes}

-- the keys of the attributes of each node differ
abbrev pub ReadAttributesDiffer : Type 0
ReadAttributesDiffer =
    (bytes : List ℕ) (docs : List YamlTree) (inventory : Inventory) → docs_of bytes ≡ Ok docs →
    inventory_of docs ≡ Ok inventory →
    list_all has_apart_attributes inventory.nodes ≡ true
