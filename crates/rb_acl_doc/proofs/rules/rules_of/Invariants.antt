use Rattle.std.proofs.Common.{◌≡◌, ◌++◌, drop, map}
use Rattle.std.specs.List.{flat_map}
use Rattle.rb_yaml.specs.Tree.{yaml_tree}
use Rattle.rb_acl_doc.specs.Policies.{rule_of}
use Rattle.rb_acl_doc.specs.Patterns.{rule_patterns}
use Rattle.rb_acl_doc.proofs.Ends.{Kept}
use Rattle.rb_acl_doc.proofs.rules.rules_of.Given as goal

-- what was made and what is left give all, and so do their patterns
abbrev pub invariant-loop-value : goal.invariant-loop-value
invariant-loop-value l = record {
  value : l.rules ++ map rule_of (drop l.value-index (map yaml_tree l.values))
      ≡ map rule_of (map yaml_tree l.values);
  patterns : Kept (flat_map rule_patterns (map rule_of (drop l.value-index
      (map yaml_tree l.values)))) (flat_map rule_patterns (map rule_of (map yaml_tree l.values)));
}
