use Rattle.std.proofs.Common.{◌≡◌, ◌++◌, drop, map}
use Rattle.rb_yaml.specs.Tree.{docs_tree}
use Rattle.rb_job.specs.Listings.{listings_of}
use Rattle.rb_job.specs.ListingsView.{listing_view}
use Rattle.rb_job.proofs.listing.listings_of.Given as goal

-- the listings so far and those of the documents that are left are all
abbrev pub invariant-loop-doc : goal.invariant-loop-doc
invariant-loop-doc l = map listing_view l.listings.items ++ listings_of (drop l.doc-index (docs_tree l.docs)) ≡ listings_of (docs_tree l.docs)
