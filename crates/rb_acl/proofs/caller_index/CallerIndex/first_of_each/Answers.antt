use Rattle.std.proofs.Common.{rules, ◌∙◌, ap}
use Rattle.rb_acl.specs.Indexing.{RuleIndex}
use Rattle.rb_acl.specs.Seeking.{place_decides}
use Rattle.rb_acl.proofs.Listing.{first_more}
use Rattle.rb_acl.proofs.caller_index.CallerIndex.first_of_each.Goals as goal

pub loop-i-preserved : goal.loop-i-preserved
loop-i-preserved c =
    first_more
    (λ resource. place_decides c.args.effect c.args.policies.now resource c.args.action.now)
    c.args.self.now c.args.resources.now c.loop-i.i c.index-resources-i.result c.as_slice-rest.result.now
    c.in_ok-found.found.items c.loop-i.places.items _ c.index.result.now _ c.loop-i-test.true
    c.index-resources-i.is
    (c.as_slice-rest.ensures ∙ ap (λ (i : RuleIndex). i.rest) c.self.view_is)
    c.in_ok-found.ensures (search rules) c.in_ok-first_behind.ensures.found
    c.loop-i.invariant c.in_ok-push.ensures.items
