use Rattle.std.proofs.Common.{map}
use Rattle.rb_yaml.specs.Tree.{yaml_tree, pair_tree}
use Rattle.rb_acl_doc.specs.Keys.{rule_keys, an_action}
use Rattle.rb_acl_doc.proofs.Foremost.{map_told}
use Rattle.rb_acl_doc.proofs.flaws.rule_flaw.Goals as goal

pub returns-in_ok-flaw-in-Some : goal.returns-in_ok-flaw-in-Some
returns-in_ok-flaw-in-Some c =
    map_told rule_keys an_action c.args.key.now (yaml_tree c.args.value.now)
    (map pair_tree c.in-Some.entries.now) _ _
    c.sooner.result c.in-Some.ensures c.in_ok-flaw-in-Some.ensures
    (c.action_flaw.ensures c.args.key.now) c.sooner.ensures
