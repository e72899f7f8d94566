use Rattle.std.proofs.Common.{◌≡◌, ◌++◌, drop, map}
use Rattle.std.specs.List.{flat_map}
use Rattle.rb_acl_doc.specs.Policies.{somebody_named}
use Rattle.rb_acl_doc.specs.Patterns.{by_patterns}
use Rattle.rb_acl_doc.proofs.Ends.{Kept}
use Rattle.rb_acl_doc.proofs.scopes.push_names.Given as goal

-- what was made and what is left give all, and so do their patterns
abbrev pub invariant-loop-text : goal.invariant-loop-text
invariant-loop-text l = record {
  value : l.by ++ map (somebody_named l.key) (drop l.text-index l.texts) ≡ l.initial.by
      ++ map (somebody_named l.key) l.texts;
  patterns : Kept (flat_map by_patterns (map (somebody_named l.key) (drop l.text-index l.texts)))
      (flat_map by_patterns (map (somebody_named l.key) l.texts));
}
