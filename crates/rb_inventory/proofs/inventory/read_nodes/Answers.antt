use Rattle.std.proofs.Common.{◌≡◌, ◌+◌, ◌∷◌, ◌++◌, [], Ok, Err, drop, map, ap, sym, subst, ◌∙◌}
use Rattle.rb_causes.specs.SeenTexts.{HasSeen}
use Rattle.rb_causes.proofs.Lists.{item_at, made_more}
use Rattle.rb_yaml.specs.Tree.{docs_tree}
use Rattle.rb_inventory.specs.Listings.{node_of}
use Rattle.rb_inventory.specs.ListingsView.{listing_view}
use Rattle.rb_inventory.specs.Inventories.{names_of, inventory_of, flaw_behind, read_behind}
use Rattle.rb_inventory.proofs.NodeSteps.{faulty, fails_told, fault_on, names_push, names_count, read_has_no_flaw, refused_has_flaw}
use Rattle.rb_inventory.proofs.inventory.read_nodes.Goals as goal

pub returns-in-Err : goal.returns-in-Err
returns-in-Err c =
    let ls = c.deref-listing-items.result.now in
    let l = listing_view c.listing-item.result in
    let names = names_of c.loop-listing.nodes in
    let kind = c.in-Err.kind in
    let here = item_at listing_view ls c.loop-listing.listing-index c.listing-item.result c.loop-listing-test.true c.listing-item.is in
    let read : Err kind ≡ read_behind names l = sym c.in-Err.is ∙ c.in_ok-node.ensures.exact names c.loop-listing.invariant.seen (c.len.ensures ∙ names_count c.loop-listing.nodes) in
    record {
      exact = fails_told c.told.result (record { node = l.0; kind = kind }) (inventory_of (docs_tree c.args.docs.now)) c.told.ensures
          (faulty names l (drop c.loop-listing.listing-index (map listing_view ls)) (drop (c.loop-listing.listing-index + 1) (map listing_view ls)) (map listing_view ls) kind (docs_tree c.args.docs.now)
          here (refused_has_flaw (flaw_behind names l) (node_of l) kind read) c.loop-listing.invariant.fault (ap (map listing_view) c.deref-listing-items.ensures.value ∙ c.in_ok-listings.ensures));
    }

pub loop-listing-preserved : goal.loop-listing-preserved
loop-listing-preserved c =
    let ls = c.deref-listing-items.result.now in
    let l = listing_view c.listing-item.result in
    let left = drop c.loop-listing.listing-index (map listing_view ls) in
    let rest = drop (c.loop-listing.listing-index + 1) (map listing_view ls) in
    let names = names_of c.loop-listing.nodes in
    let node = c.in-Ok.node in
    let here = item_at listing_view ls c.loop-listing.listing-index c.listing-item.result c.loop-listing-test.true c.listing-item.is in
    let read : Ok node ≡ read_behind names l = sym c.in-Ok.is ∙ c.in_ok-node.ensures.exact names c.loop-listing.invariant.seen (c.len.ensures ∙ names_count c.loop-listing.nodes) in
    let sound = read_has_no_flaw (flaw_behind names l) (node_of l) node read in
    let pushed = c.in_ok-push-in-Ok.ensures.ok in
    let more = names_push c.loop-listing.nodes c.push.new.self node l pushed sound.1 in record {
      seen = subst (HasSeen c.note.new.self) (sym more) (c.in_ok-note-in-Ok.ensures names c.loop-listing.invariant.seen);
      fault = fault_on names (names_of c.push.new.self) l left rest (map listing_view ls) here sound.0 more c.loop-listing.invariant.fault;
      nodes = made_more c.loop-listing.nodes c.push.new.self (node_of l ∷ []) (map node_of left) (map node_of rest) (map node_of (map listing_view ls))
          (pushed ∙ ap (λ n. c.loop-listing.nodes ++ n ∷ []) sound.1) (ap (map node_of) here) c.loop-listing.invariant.nodes;
    }
