use Rattle.std.proofs.Common.{◌≡◌, drop, map}
use Rattle.rb_acl.specs.Seeking.{place_decides, earliest}
use Rattle.rb_acl.proofs.seeking.earliest_under.Given as goal

-- the first of what is found and the places that are left is that of all
abbrev pub invariant-loop-k : goal.invariant-loop-k
invariant-loop-k l =
    let test = place_decides l.sought.effect l.sought.policies.now l.sought.resource.now
    l.sought.action.now in
    earliest test l.first (map (λ k. k.place) (drop l.k-index l.keyed))
    ≡ earliest test l.initial.first (map (λ k. k.place) l.keyed)
