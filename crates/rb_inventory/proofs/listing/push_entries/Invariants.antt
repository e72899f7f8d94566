use Rattle.std.proofs.Common.{◌≡◌, ◌++◌, drop, map}
use Rattle.rb_yaml.specs.Tree.{pair_tree}
use Rattle.rb_inventory.specs.Listings.{entry_listing}
use Rattle.rb_inventory.specs.ListingsView.{listing_view}
use Rattle.rb_inventory.proofs.listing.push_entries.Given as goal

-- the listings so far and those of the entries that are left are all
abbrev pub invariant-loop-entry : goal.invariant-loop-entry
invariant-loop-entry l =
    map listing_view l.listings.items ++ map entry_listing (drop l.entry-index (map pair_tree l.entries))
    ≡ map listing_view l.initial.listings.items ++ map entry_listing (map pair_tree l.entries)
