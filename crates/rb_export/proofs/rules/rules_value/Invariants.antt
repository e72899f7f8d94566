use Rattle.std.proofs.Common.{◌≡◌, ◌++◌, drop, map}
use Rattle.rb_canon.specs.Views.{canon_tree}
use Rattle.rb_export.specs.Policies.{rule_value}
use Rattle.rb_export.proofs.rules.rules_value.Given as goal

-- the values so far, with those of the rules that are left, are all
abbrev pub invariant-loop-rule : goal.invariant-loop-rule
invariant-loop-rule l =
    map canon_tree l.items.items ++ map rule_value (drop l.rule-index l.rules)
    ≡ map rule_value l.rules
