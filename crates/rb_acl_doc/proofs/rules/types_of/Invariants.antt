use Rattle.std.proofs.Common.{◌≡◌, ◌++◌, drop, map}
use Rattle.std.specs.List.{flat_map}
use Rattle.rb_yaml.specs.Tree.{pair_tree}
use Rattle.rb_acl_doc.specs.Policies.{type_of}
use Rattle.rb_acl_doc.specs.Patterns.{type_patterns}
use Rattle.rb_acl_doc.proofs.Ends.{Kept}
use Rattle.rb_acl_doc.proofs.rules.types_of.Given as goal

-- what was made and what is left give all, and so do their patterns
abbrev pub invariant-loop-entry : goal.invariant-loop-entry
invariant-loop-entry l = record {
  value : l.types ++ map type_of (drop l.entry-index (map pair_tree l.entries))
      ≡ map type_of (map pair_tree l.entries);
  patterns : Kept (flat_map type_patterns (map type_of (drop l.entry-index
      (map pair_tree l.entries)))) (flat_map type_patterns (map type_of
      (map pair_tree l.entries)));
}
