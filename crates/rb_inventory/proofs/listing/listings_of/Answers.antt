use Rattle.std.proofs.Common.{◌+◌, drop, map, ap}
use Rattle.rb_causes.proofs.Lists.{item_at, made_more}
use Rattle.rb_yaml.specs.Tree.{yaml_tree, docs_tree}
use Rattle.rb_yaml.specs.declared.yaml.Doc.{Doc}
use Rattle.rb_values.specs.Values.{entries_in}
use Rattle.rb_inventory.specs.Listings.{listings_by, listings_of}
use Rattle.rb_inventory.specs.ListingsView.{listing_view}
use Rattle.rb_inventory.proofs.listing.listings_of.Goals as goal

pub loop-doc-preserved : goal.loop-doc-preserved
loop-doc-preserved c =
    let docs = c.args.docs.now in
    let here = item_at (λ (d : Doc). yaml_tree d.root) docs c.loop-doc.doc-index c.doc-item.result c.loop-doc-test.true c.doc-item.is in
    made_more (map listing_view c.loop-doc.listings.items) (map listing_view c.push_listings.new.listings.items) (listings_by (entries_in (yaml_tree c.doc-item.result.root)))
    (listings_of (drop c.loop-doc.doc-index (docs_tree docs))) (listings_of (drop (c.loop-doc.doc-index + 1) (docs_tree docs))) (listings_of (docs_tree docs))
    c.in_ok-push_listings.ensures (ap listings_of here) c.loop-doc.invariant
