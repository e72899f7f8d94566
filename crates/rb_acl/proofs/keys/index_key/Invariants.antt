use Rattle.std.proofs.Common.{◌≡◌, drop}
use Rattle.rb_acl.specs.Keys.{index_key}
use Rattle.rb_acl.proofs.keys.index_key.Given as goal

-- what the tests that are left ask for is what all do
abbrev pub invariant-loop-test : goal.invariant-loop-test
invariant-loop-test l = index_key (drop l.test-index l.rule.tests) ≡ index_key l.rule.tests
