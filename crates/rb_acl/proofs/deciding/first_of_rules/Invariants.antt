use Rattle.std.proofs.Common.{◌≡◌, drop, true}
use Rattle.std.specs.List.{list_all}
use Rattle.rb_acl.specs.Deciding.{clause_decides, first_place, placed_rules}
use Rattle.rb_acl.specs.Plain.{is_plain_rule}
use Rattle.rb_acl.proofs.deciding.first_of_rules.Given as goal

-- the first of the rules that are left is the first of all
abbrev pub invariant-loop-rule : goal.invariant-loop-rule
invariant-loop-rule l =
    let first = first_place (clause_decides l.effect l.question) in
    let placed = placed_rules l.policy l.rules.name l.doc l.type_index in
    record {
      found : first (placed l.rule (drop l.rule l.rules.rules)) ≡ first (placed 0 l.rules.rules);
      memory : list_all is_plain_rule l.rules.rules ≡ true
          → list_all is_plain_rule (drop l.rule l.rules.rules) ≡ true;
    }
