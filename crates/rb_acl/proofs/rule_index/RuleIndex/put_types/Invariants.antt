use Rattle.std.proofs.Common.{◌≡◌, drop}
use Rattle.rb_acl.specs.Indexing.{put_types}
use Rattle.rb_acl.proofs.rule_index.RuleIndex.put_types.Given as goal

-- with the types that are left it is what all make of the first
abbrev pub invariant-loop-type_index : goal.invariant-loop-type_index
invariant-loop-type_index l =
    put_types l.type_name l.doc l.type_index (drop l.type_index l.policy.types) l.self
    ≡ put_types l.type_name l.doc 0 l.policy.types l.initial.self
