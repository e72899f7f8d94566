use Rattle.std.proofs.Common.{◌≡◌, drop}
use Rattle.rb_acl.specs.Indexing.{put_docs}
use Rattle.rb_acl.proofs.rule_index.RuleIndex.gather.Given as goal

-- with the documents that are left it is what all make of the empty one
abbrev pub invariant-loop-doc : goal.invariant-loop-doc
invariant-loop-doc l =
    put_docs l.caller l.context l.type_name l.doc (drop l.doc l.policies.docs) l.index
    ≡ put_docs l.caller l.context l.type_name 0 l.policies.docs l.initial.index
