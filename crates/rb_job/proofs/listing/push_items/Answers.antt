use Rattle.std.proofs.Common.{◌+◌, ◌∷◌, ◌++◌, [], Some, drop, map, ap, ◌∙◌}
use Rattle.std.proofs.lemmas.List.{map_push}
use Rattle.rb_causes.proofs.Lists.{item_at, made_more}
use Rattle.rb_yaml.specs.Tree.{yaml_tree}
use Rattle.rb_job.specs.Listings.{items_listed}
use Rattle.rb_job.specs.ListingsView.{listing_view}
use Rattle.rb_job.proofs.listing.push_items.Goals as goal

pub loop-place-preserved : goal.loop-place-preserved
loop-place-preserved c =
    let vs = c.args.items.now in
    let place = c.loop-place.place in
    let left = drop place (map yaml_tree vs) in
    let rest = drop (place + 1) (map yaml_tree vs) in
    let here = item_at yaml_tree vs place c.index-items-place.result c.loop-place-test.true c.index-items-place.is in
    made_more (map listing_view c.loop-place.listings.items) (map listing_view c.push.new.self.items) ((place, Some (yaml_tree c.index-items-place.result)) ∷ []) (items_listed place left) (items_listed (place + 1) rest)
    (map listing_view c.args.listings.now.items ++ items_listed 0 (map yaml_tree vs))
    (ap (map listing_view) c.in_ok-push.ensures.items ∙ map_push listing_view c.loop-place.listings.items _)
    (ap (items_listed place) here) c.loop-place.invariant
