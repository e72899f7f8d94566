use Rattle.std.proofs.Common.{◌≡◌, ◌++◌, map, length}
use Rattle.rb_canon.specs.Views.{field_view}
use Rattle.rb_export.specs.Groups.{groups_by}
use Rattle.rb_export.specs.Policies.{test_key, tests_entry}
use Rattle.rb_export.proofs.rules.push_tests.Given as goal

-- the fields so far, with those of the groups that are left, are all
abbrev pub invariant-loop-key : goal.invariant-loop-key
invariant-loop-key l =
    map field_view l.fields.items ++ map tests_entry (groups_by test_key l.rest)
    ≡ map field_view l.initial.fields.items ++ map tests_entry (groups_by test_key l.tests)

abbrev pub decreases-loop-key : goal.decreases-loop-key
decreases-loop-key l = length l.rest
