use Rattle.std.proofs.Common.{◌≡◌, ◌++◌, drop, map}
use Rattle.rb_yaml.specs.Tree.{yaml_tree}
use Rattle.rb_job.specs.Listings.{items_listed}
use Rattle.rb_job.specs.ListingsView.{listing_view}
use Rattle.rb_job.proofs.listing.push_items.Given as goal

-- the listings so far and those of the items that are left are all
abbrev pub invariant-loop-place : goal.invariant-loop-place
invariant-loop-place l =
    map listing_view l.listings.items ++ items_listed l.place (drop l.place (map yaml_tree l.items))
    ≡ map listing_view l.initial.listings.items ++ items_listed 0 (map yaml_tree l.items)
