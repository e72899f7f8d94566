use Rattle.std.proofs.Common.{◌≡◌, ◌++◌, drop}
use Rattle.rb_acl_doc.proofs.Ends.{Kept}
use Rattle.rb_acl_doc.proofs.rules.patterns_of.Given as goal

-- what was made and what is left give all, and so do their patterns
abbrev pub invariant-loop-text : goal.invariant-loop-text
invariant-loop-text l = record {
  value : l.patterns ++ (drop l.text-index l.texts) ≡ l.texts;
  patterns : Kept ((drop l.text-index l.texts)) (l.texts);
}
