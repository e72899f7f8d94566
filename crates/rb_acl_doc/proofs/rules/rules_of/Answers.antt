use Rattle.std.proofs.Common.{◌+◌, ◌∷◌, ◌++◌, [], drop, map, ap, ◌∙◌}
use Rattle.rb_yaml.specs.Tree.{yaml_tree}
use Rattle.std.specs.List.{flat_map}
use Rattle.rb_causes.proofs.Lists.{item_at, made_more}
use Rattle.rb_acl_doc.specs.Policies.{rule_of}
use Rattle.rb_acl_doc.specs.Patterns.{rule_patterns}
use Rattle.rb_acl_doc.proofs.Ends.{handed_on, ended_here, kept_on}
use Rattle.rb_acl_doc.proofs.rules.rules_of.Goals as goal

pub returns-in_err-rule_of-clause-patterns : goal.returns-in_err-rule_of-clause-patterns
returns-in_err-rule_of-clause-patterns c =
    let xs = c.args.values.now in
    let i = c.loop-value.value-index in
    let here = item_at yaml_tree xs i c.value-item.result c.loop-value-test.true c.value-item.is in
    handed_on c.from_residual.result c.in_err-rule_of.field-0.0 _ c.from_residual.ensures.1
    (ended_here (rule_patterns (rule_of (yaml_tree c.value-item.result)))
    (flat_map rule_patterns (map (rule_of) (drop (i + 1) (map yaml_tree xs)))) _ _ _ (ap
    (λ es. flat_map rule_patterns (map (rule_of) es)) here) c.loop-value.invariant.patterns
    c.in_err-rule_of.ensures.patterns)

pub loop-value-preserved : goal.loop-value-preserved
loop-value-preserved c =
    let xs = c.args.values.now in
    let i = c.loop-value.value-index in
    let here = item_at yaml_tree xs i c.value-item.result c.loop-value-test.true c.value-item.is in
    record {
      value = made_more c.loop-value.rules _ (rule_of (yaml_tree c.value-item.result) ∷ []) _ _
          _ (c.in_ok-push.ensures.ok ∙ ap (λ b. c.loop-value.rules
          ++ b ∷ []) c.in_ok-rule_of.ensures.value) (ap (map (rule_of)) here)
          c.loop-value.invariant.value;
      patterns = kept_on (rule_patterns (rule_of (yaml_tree c.value-item.result)))
          (flat_map rule_patterns (map (rule_of) (drop (i + 1) (map yaml_tree xs)))) _ _ (ap
          (λ es. flat_map rule_patterns (map (rule_of) es)) here)
          c.in_ok-rule_of.ensures.patterns c.loop-value.invariant.patterns;
    }
