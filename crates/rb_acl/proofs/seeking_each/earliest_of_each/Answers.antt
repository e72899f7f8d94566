use Rattle.std.proofs.Common.{refl}
use Rattle.rb_acl.specs.Seeking.{place_decides}
use Rattle.rb_acl.proofs.Listing.{found_more}
use Rattle.rb_acl.proofs.seeking_each.earliest_of_each.Goals as goal

pub loop-place-preserved : goal.loop-place-preserved
loop-place-preserved c =
    found_more
    (λ resource. place_decides c.args.effect c.args.policies.now resource c.args.action.now)
    c.args.resources.now c.args.places.now c.loop-place.place-index _ _ _ _ _
    c.loop-place-test.true refl c.loop-place.invariant c.in_ok-marks.ensures
    (rw (c.as_slice.ensures.value, c.as_slice-in-loop-place.ensures.value)
    at c.in_ok-found-2.ensures)
