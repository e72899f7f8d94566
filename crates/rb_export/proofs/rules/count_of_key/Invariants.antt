use Rattle.std.proofs.Common.{◌≡◌, ◌+◌, drop}
use Rattle.rb_export.specs.Groups.{count_of_name}
use Rattle.rb_export.specs.Policies.{test_key}
use Rattle.rb_export.proofs.rules.count_of_key.Given as goal

-- so many were counted, and what is left is counted too
abbrev pub invariant-loop-test : goal.invariant-loop-test
invariant-loop-test l =
    (l.count ≡ l.test-index)
    × (l.count + count_of_name test_key l.key (drop l.test-index l.tests)
    ≡ count_of_name test_key l.key l.tests)
