use Rattle.std.proofs.Common.{◌≡◌, None, map, take}
use Rattle.rb_acl.specs.Seeking.{place_decides, earliest}
use Rattle.rb_acl.proofs.seeking_each.earliest_of_each.Given as goal

-- what is found for each is the earliest of the places so far
abbrev pub invariant-loop-place : goal.invariant-loop-place
invariant-loop-place l = l.found.items ≡ map (λ resource. earliest
    (place_decides l.effect l.policies resource l.action) None (take l.place-index l.places))
    l.resources
