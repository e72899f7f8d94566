use Rattle.std.proofs.Common.{◌≡◌, drop, true}
use Rattle.std.specs.List.{list_all}
use Rattle.rb_acl.specs.Applying.{test_holds}
use Rattle.rb_acl.specs.Plain.{is_plain_test}
use Rattle.rb_acl.proofs.applying.passes.Given as goal

-- the tests that are left hold where all do
abbrev pub invariant-loop-test : goal.invariant-loop-test
invariant-loop-test l = record {
  found : list_all (test_holds l.resource) (drop l.test-index l.rule.tests)
      ≡ list_all (test_holds l.resource) l.rule.tests;
  memory : list_all is_plain_test l.rule.tests ≡ true
      → list_all is_plain_test (drop l.test-index l.rule.tests) ≡ true;
}
