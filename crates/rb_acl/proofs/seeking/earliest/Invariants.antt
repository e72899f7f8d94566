use Rattle.std.proofs.Common.{◌≡◌, drop}
use Rattle.rb_acl.specs.Seeking.{place_decides, earliest}
use Rattle.rb_acl.proofs.seeking.earliest.Given as goal

-- the first of what is found and the places that are left is that of all
abbrev pub invariant-loop-place : goal.invariant-loop-place
invariant-loop-place l =
    let test = place_decides l.sought.effect l.sought.policies.now l.sought.resource.now
    l.sought.action.now in
    earliest test l.first (drop l.place-index l.places) ≡ earliest test l.initial.first l.places
