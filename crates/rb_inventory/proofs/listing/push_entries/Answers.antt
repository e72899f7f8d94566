use Rattle.std.proofs.Common.{◌+◌, ◌∷◌, ◌++◌, [], Some, drop, map, ap, ◌∙◌}
use Rattle.std.proofs.lemmas.List.{map_push}
use Rattle.rb_causes.proofs.Lists.{item_at, made_more}
use Rattle.rb_yaml.specs.Tree.{yaml_tree, pair_tree}
use Rattle.rb_inventory.specs.Listings.{entry_listing}
use Rattle.rb_inventory.specs.ListingsView.{listing_view}
use Rattle.rb_inventory.proofs.listing.push_entries.Goals as goal

pub loop-entry-preserved : goal.loop-entry-preserved
loop-entry-preserved c =
    let es = c.args.entries.now in
    let e = pair_tree c.entry-item.result in
    let left = drop c.loop-entry.entry-index (map pair_tree es) in
    let rest = drop (c.loop-entry.entry-index + 1) (map pair_tree es) in
    let before = map listing_view c.loop-entry.listings.items in
    let here = item_at pair_tree es c.loop-entry.entry-index c.entry-item.result c.loop-entry-test.true c.entry-item.is in
    made_more before (map listing_view c.push.new.self.items) (entry_listing e ∷ []) (map entry_listing left) (map entry_listing rest)
    (map listing_view c.args.listings.now.items ++ map entry_listing (map pair_tree es))
    (ap (map listing_view) c.in_ok-push.ensures.items ∙ map_push listing_view c.loop-entry.listings.items _
    ∙ ap (λ name. before ++ (name, Some (yaml_tree c.value_of.result.now)) ∷ []) c.key_of.ensures ∙ ap (λ v. before ++ (e.0, Some v) ∷ []) c.value_of.ensures)
    (ap (map entry_listing) here) c.loop-entry.invariant
