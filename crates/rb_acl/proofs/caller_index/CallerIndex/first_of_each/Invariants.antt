use Rattle.std.proofs.Common.{◌≡◌, None, map, take}
use Rattle.rb_acl.specs.Indexing.{told_for}
use Rattle.rb_acl.specs.Seeking.{place_decides, earliest}
use Rattle.rb_acl.proofs.caller_index.CallerIndex.first_of_each.Given as goal

-- the resources so far have their first places
abbrev pub invariant-loop-i : goal.invariant-loop-i
invariant-loop-i l = l.places.items ≡ map (λ resource. earliest
    (place_decides l.effect l.policies resource l.action) None (told_for l.self resource))
    (take l.i l.resources)
