use Rattle.std.proofs.Common.{◌≡◌, drop, true}
use Rattle.std.specs.List.{list_all}
use Rattle.rb_acl.specs.Deciding.{clause_decides, first_place, placed_docs}
use Rattle.rb_acl.specs.Plain.{is_plain_policy}
use Rattle.rb_acl.proofs.deciding.first_of_all.Given as goal

-- the first of the documents that are left is the first of all
abbrev pub invariant-loop-doc : goal.invariant-loop-doc
invariant-loop-doc l =
    let first = first_place (clause_decides l.effect l.question) in
    record {
      found : first (placed_docs l.doc (drop l.doc l.policies.docs))
          ≡ first (placed_docs 0 l.policies.docs);
      memory : list_all is_plain_policy l.policies.docs ≡ true
          → list_all is_plain_policy (drop l.doc l.policies.docs) ≡ true;
    }
