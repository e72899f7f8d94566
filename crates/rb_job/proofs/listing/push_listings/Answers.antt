use Rattle.std.proofs.Common.{◌≡◌, ◌++◌, map, ap, sym, ◌∙◌}
use Rattle.std.proofs.lemmas.Result.{on_ok_weaker}
use Rattle.rb_yaml.specs.Tree.{yaml_tree, seq, trees_of}
use Rattle.rb_job.specs.Listings.{items_listed, listings_in}
use Rattle.rb_job.specs.ListingsView.{listing_view}
use Rattle.rb_values.proofs.Trees.{tree-Seq, tree_list_of}
use Rattle.rb_job.proofs.listing.push_listings.Goals as goal

pub returns-in-Seq : goal.returns-in-Seq
returns-in-Seq c =
    let value_is : yaml_tree c.args.root.now ≡ seq c.in-Seq.line (trees_of (map yaml_tree c.in-Seq.items.items)) = ap yaml_tree c.in-Seq.is ∙ tree-Seq c.in-Seq.line c.in-Seq.items in
    on_ok_weaker c.push_items.result
    (λ put. put ∙ ap (λ more. map listing_view c.args.listings.now.items ++ more)
    (ap (λ xs. items_listed 0 (map yaml_tree xs)) c.as_slice.ensures.value ∙ ap (items_listed 0) (sym (tree_list_of (map yaml_tree c.in-Seq.items.items))) ∙ sym (ap listings_in value_is)))
    c.push_items.ensures
