use Rattle.std.proofs.Common.{◌≡◌, drop, map}
use Rattle.std.specs.List.{flat_map}
use Rattle.rb_yaml.specs.Tree.{yaml_tree}
use Rattle.rb_acl_doc.specs.Keys.{rule_form}
use Rattle.rb_acl_doc.specs.Telling.{sooner, foremost_kind}
use Rattle.rb_acl_doc.proofs.flaws.all_rules_flaw.Given as goal

-- the flaw so far, and that of what is left, are that of all
abbrev pub invariant-loop-rule : goal.invariant-loop-rule
invariant-loop-rule l =
    sooner l.flaw (foremost_kind (flat_map (rule_form l.key) (drop l.rule-index
    (map yaml_tree l.rules))))
    ≡ foremost_kind (flat_map (rule_form l.key) (map yaml_tree l.rules))
