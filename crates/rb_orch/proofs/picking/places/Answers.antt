use Rattle.rb_orch.proofs.Steps.{pushed_more, places_more}
use Rattle.rb_orch.proofs.picking.places.Goals as goal

pub loop-place-preserved : goal.loop-place-preserved
loop-place-preserved c = pushed_more _ _ _ _ _ _ c.in_ok-push.ensures.items
    (places_more _ _ c.loop-place-test.true) c.loop-place.invariant
