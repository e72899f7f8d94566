use Rattle.std.proofs.Common.{◌≡◌, ◌++◌, [], drop, map}
use Rattle.rb_causes.specs.SeenTexts.{HasSeen}
use Rattle.rb_inventory.specs.Inventories.{first_listed_fault, names_of}
use Rattle.rb_inventory.specs.Listings.{node_of}
use Rattle.rb_inventory.specs.ListingsView.{listing_view}
use Rattle.rb_inventory.proofs.inventory.read_nodes.Given as goal

-- the set holds the names so far, the first fault is among the listings that are left, and the
-- nodes so far and theirs are all
abbrev pub invariant-loop-listing : goal.invariant-loop-listing
invariant-loop-listing l = record {
  seen : HasSeen l.seen (names_of l.nodes);
  fault : first_listed_fault (names_of l.nodes) (drop l.listing-index (map listing_view l.listing-items)) ≡ first_listed_fault [] (map listing_view l.listing-items);
  nodes : l.nodes ++ map node_of (drop l.listing-index (map listing_view l.listing-items)) ≡ map node_of (map listing_view l.listing-items);
}
