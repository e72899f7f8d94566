use Rattle.std.proofs.Common.{◌≡◌, ◌++◌, drop, map}
use Rattle.rb_canon.specs.Views.{field_view}
use Rattle.rb_export.specs.Policies.{test_entry}
use Rattle.rb_export.proofs.rules.properties_value.Given as goal

-- the fields so far, with those of the tests that are left, are all
abbrev pub invariant-loop-test : goal.invariant-loop-test
invariant-loop-test l =
    map field_view l.fields.items ++ map test_entry (drop l.test-index l.tests)
    ≡ map test_entry l.tests
