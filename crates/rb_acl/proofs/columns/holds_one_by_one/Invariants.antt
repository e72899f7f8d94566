use Rattle.std.proofs.Common.{◌≡◌, map, take}
use Rattle.rb_acl.specs.Applying.{test_holds}
use Rattle.rb_acl.proofs.columns.holds_one_by_one.Given as goal

-- the resources so far have their marks
abbrev pub invariant-loop-resource : goal.invariant-loop-resource
invariant-loop-resource l = l.marks.items
    ≡ map (λ resource. test_holds resource l.test) (take l.resource-index l.resources)
