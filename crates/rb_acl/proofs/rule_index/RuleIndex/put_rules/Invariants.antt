use Rattle.std.proofs.Common.{◌≡◌, drop}
use Rattle.rb_acl.specs.Indexing.{put_rules}
use Rattle.rb_acl.proofs.rule_index.RuleIndex.put_rules.Given as goal

-- with the rules that are left it is what all make of the first
abbrev pub invariant-loop-rule : goal.invariant-loop-rule
invariant-loop-rule l =
    put_rules l.doc l.type_index l.rule (drop l.rule l.rules.rules) l.self
    ≡ put_rules l.doc l.type_index 0 l.rules.rules l.initial.self
