use Rattle.std.proofs.Common.{◌≡◌, drop, true}
use Rattle.std.specs.List.{list_all}
use Rattle.rb_acl.specs.Deciding.{clause_decides, first_place, placed_types}
use Rattle.rb_acl.specs.Plain.{is_plain_policy, is_plain_rules}
use Rattle.rb_acl.proofs.deciding.first_of_types.Given as goal

-- the first of the types that are left is the first of all
abbrev pub invariant-loop-type_index : goal.invariant-loop-type_index
invariant-loop-type_index l =
    let first = first_place (clause_decides l.effect l.question) in
    let placed = placed_types l.policy l.doc in
    record {
      found : first (placed l.type_index (drop l.type_index l.policy.types))
          ≡ first (placed 0 l.policy.types);
      memory : is_plain_policy l.policy ≡ true
          → list_all is_plain_rules (drop l.type_index l.policy.types) ≡ true;
    }
