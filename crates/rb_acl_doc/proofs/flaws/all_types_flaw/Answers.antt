use Rattle.std.proofs.Common.{◌+◌, drop, map, ap, ◌∙◌}
use Rattle.rb_causes.proofs.Lists.{item_at}
use Rattle.rb_yaml.specs.Tree.{yaml_tree, pair_tree}
use Rattle.rb_values.specs.Values.{Entry}
use Rattle.rb_acl_doc.specs.Forms.{list_of}
use Rattle.rb_acl_doc.specs.Keys.{rule_form}
use Rattle.rb_acl_doc.specs.Telling.{foremost_kind}
use Rattle.rb_acl_doc.proofs.Foremost.{flaw_on}
use Rattle.rb_acl_doc.proofs.flaws.all_types_flaw.Goals as goal

pub loop-entry-preserved : goal.loop-entry-preserved
loop-entry-preserved c =
    let xs = c.args.types.now in
    let i = c.loop-entry.entry-index in
    let here = item_at pair_tree xs i c.entry-item.result c.loop-entry-test.true c.entry-item.is in
    flaw_on (λ (e : Entry). list_of rule_form e.0 e.1) (pair_tree c.entry-item.result) _ (drop
    (i + 1) (map pair_tree xs)) c.loop-entry.flaw
    c.in_ok-rules_flaw.field-0 c.sooner-flaw.result _ here
    (c.in_ok-rules_flaw.ensures ∙ ap (λ k. foremost_kind (list_of rule_form k
    (yaml_tree c.value_of.result.now))) c.key_of.ensures
    ∙ ap (λ v. foremost_kind (list_of rule_form (pair_tree c.entry-item.result).0 v))
    c.value_of.ensures) c.sooner-flaw.ensures c.loop-entry.invariant
