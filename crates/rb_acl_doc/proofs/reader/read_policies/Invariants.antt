use Rattle.std.proofs.Common.{◌≡◌, ◌+◌, ◌++◌, drop, take}
use Rattle.rb_yaml.specs.Tree.{docs_tree}
use Rattle.rb_acl_doc.specs.Policies.{policies_from}
use Rattle.rb_acl_doc.specs.Reading.{AreSound}
use Rattle.rb_acl_doc.proofs.reader.read_policies.Given as goal

-- the policies so far and those of the documents that are left are all, and those before are sound
abbrev pub invariant-loop-index : goal.invariant-loop-index
invariant-loop-index l = record {
  value : l.policies ++ policies_from l.file (l.index + 1) (drop l.index (docs_tree l.docs))
      ≡ policies_from l.file 1 (docs_tree l.docs);
  sound : AreSound (take l.index (docs_tree l.docs));
}
