use Rattle.std.proofs.Common.{◌+◌, drop, map}
use Rattle.rb_causes.proofs.Lists.{item_at}
use Rattle.rb_yaml.specs.Tree.{yaml_tree}
use Rattle.rb_acl_doc.specs.Keys.{rule_form}
use Rattle.rb_acl_doc.proofs.Foremost.{flaw_on}
use Rattle.rb_acl_doc.proofs.flaws.all_rules_flaw.Goals as goal

pub loop-rule-preserved : goal.loop-rule-preserved
loop-rule-preserved c =
    let xs = c.args.rules.now in
    let i = c.loop-rule.rule-index in
    let here = item_at yaml_tree xs i c.rule-item.result c.loop-rule-test.true c.rule-item.is in
    flaw_on (rule_form c.args.key.now) (yaml_tree c.rule-item.result) _ (drop (i + 1)
    (map yaml_tree xs)) c.loop-rule.flaw
    c.in_ok-rule_flaw.field-0 c.sooner-flaw.result _ here
    (c.in_ok-rule_flaw.ensures) c.sooner-flaw.ensures c.loop-rule.invariant
