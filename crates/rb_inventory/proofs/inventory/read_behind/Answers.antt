use Rattle.rb_inventory.specs.Inventories.{flaw_behind}
use Rattle.rb_inventory.specs.Listings.{node_of}
use Rattle.rb_inventory.specs.ListingsView.{listing_view}
use Rattle.rb_inventory.specs.declared.fault.NodeKind.TheVariants.{TooMany, Twice}
use Rattle.rb_inventory.proofs.AttributeFacts.{refused}
use Rattle.rb_inventory.proofs.NodeSteps.{too_many, not_many, repeated, read_by_value}
use Rattle.rb_inventory.proofs.inventory.read_behind.Goals as goal

pub returns-then-before-ge-MOST_NODES-clause-exact : goal.returns-then-before-ge-MOST_NODES-clause-exact
returns-then-before-ge-MOST_NODES-clause-exact c = λ names held count.
    let l = listing_view c.args.listing.now in
    refused TooMany (flaw_behind names l) (node_of l) (too_many c.args.before names l count c.if-before-ge-MOST_NODES.true)

pub returns-then-is_repeated-clause-exact : goal.returns-then-is_repeated-clause-exact
returns-then-is_repeated-clause-exact c = λ names held count.
    let l = listing_view c.args.listing.now in
    refused Twice (flaw_behind names l) (node_of l)
    (repeated names l c.is_repeated.result (not_many c.args.before names count c.if-before-ge-MOST_NODES.false) (c.is_repeated.ensures names held) c.if-is_repeated.true)

pub returns-clause-exact : goal.returns-clause-exact
returns-clause-exact c = λ names held count.
    read_by_value c.read_node.result names (listing_view c.args.listing.now) c.is_repeated.result (not_many c.args.before names count c.if-before-ge-MOST_NODES.false) (c.is_repeated.ensures names held) c.if-is_repeated.false
    c.read_node.ensures.exact
