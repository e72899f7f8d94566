use Rattle.std.proofs.Common.{◌+◌, not, drop, map, ap, sym, ◌∙◌}
use Rattle.rb_yaml.specs.Tree.{yaml_tree}
use Rattle.rb_causes.specs.Texts.{is_empty}
use Rattle.rb_causes.proofs.Lists.{item_at}
use Rattle.rb_values.specs.Values.{scalar_or_empty}
use Rattle.rb_acl_doc.proofs.Walks.{any_here, any_on}
use Rattle.rb_acl_doc.proofs.flaws.one_filled.Goals as goal

pub returns-then-is_filled : goal.returns-then-is_filled
returns-then-is_filled c =
    let xs = c.args.items.now in
    let i = c.loop-item.item-index in
    let here = item_at yaml_tree xs i c.item-item.result c.loop-item-test.true c.item-item.is in
    any_here (λ action. not (is_empty action)) (scalar_or_empty (yaml_tree c.item-item.result)) _
    (map scalar_or_empty (drop (i + 1) (map yaml_tree xs))) (ap (map scalar_or_empty) here) _
    (sym c.is_filled.ensures ∙ c.if-is_filled.true) c.loop-item.invariant

pub loop-item-preserved : goal.loop-item-preserved
loop-item-preserved c =
    let xs = c.args.items.now in
    let i = c.loop-item.item-index in
    let here = item_at yaml_tree xs i c.item-item.result c.loop-item-test.true c.item-item.is in
    any_on (λ action. not (is_empty action)) (scalar_or_empty (yaml_tree c.item-item.result)) _
    (map scalar_or_empty (drop (i + 1) (map yaml_tree xs))) (ap (map scalar_or_empty) here) _
    (sym c.is_filled.ensures ∙ c.if-is_filled.false) c.loop-item.invariant
