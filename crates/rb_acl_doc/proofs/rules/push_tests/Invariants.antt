use Rattle.std.proofs.Common.{◌≡◌, ◌++◌, drop, map}
use Rattle.std.specs.List.{flat_map}
use Rattle.rb_yaml.specs.Tree.{pair_tree}
use Rattle.rb_acl_doc.specs.Policies.{test_of}
use Rattle.rb_acl_doc.specs.Patterns.{test_patterns}
use Rattle.rb_acl_doc.proofs.Ends.{Kept}
use Rattle.rb_acl_doc.proofs.rules.push_tests.Given as goal

-- what was made and what is left give all, and so do their patterns
abbrev pub invariant-loop-property : goal.invariant-loop-property
invariant-loop-property l = record {
  value : l.tests ++ map (test_of l.kind) (drop l.property-index (map pair_tree l.properties))
      ≡ l.initial.tests ++ map (test_of l.kind) (map pair_tree l.properties);
  patterns : Kept (flat_map test_patterns (map (test_of l.kind) (drop l.property-index
      (map pair_tree l.properties)))) (flat_map test_patterns (map (test_of l.kind)
      (map pair_tree l.properties)));
}
