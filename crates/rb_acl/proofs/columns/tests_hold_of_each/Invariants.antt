use Rattle.std.proofs.Common.{◌≡◌, map, take}
use Rattle.std.specs.List.{list_all}
use Rattle.rb_acl.specs.Applying.{test_holds}
use Rattle.rb_acl.proofs.columns.tests_hold_of_each.Given as goal

-- the marks are those of the tests so far
abbrev pub invariant-loop-test : goal.invariant-loop-test
invariant-loop-test l = l.marks.items
    ≡ map (λ resource. list_all (test_holds resource) (take l.test-index l.tests)) l.resources
