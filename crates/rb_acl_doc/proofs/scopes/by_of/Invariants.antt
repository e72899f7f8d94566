use Rattle.std.proofs.Common.{◌≡◌, ◌++◌, drop, map}
use Rattle.std.specs.List.{flat_map}
use Rattle.rb_yaml.specs.Tree.{pair_tree}
use Rattle.rb_acl_doc.specs.Policies.{names_in}
use Rattle.rb_acl_doc.specs.Patterns.{by_patterns}
use Rattle.rb_acl_doc.proofs.Ends.{Kept}
use Rattle.rb_acl_doc.proofs.scopes.by_of.Given as goal

-- what was made and what is left give all, and so do their patterns
abbrev pub invariant-loop-entry : goal.invariant-loop-entry
invariant-loop-entry l = record {
  value : l.by ++ flat_map names_in (drop l.entry-index (map pair_tree l.entries))
      ≡ flat_map names_in (map pair_tree l.entries);
  patterns : Kept (flat_map by_patterns (flat_map names_in (drop l.entry-index
      (map pair_tree l.entries)))) (flat_map by_patterns (flat_map names_in
      (map pair_tree l.entries)));
}
