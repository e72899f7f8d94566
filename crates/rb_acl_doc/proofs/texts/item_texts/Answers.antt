use Rattle.std.proofs.Common.{◌+◌, ◌∷◌, ◌++◌, [], drop, map, ap, ◌∙◌}
use Rattle.rb_causes.proofs.Lists.{item_at, made_more}
use Rattle.rb_yaml.specs.Tree.{yaml_tree}
use Rattle.rb_values.specs.Values.{scalar_or_empty}
use Rattle.rb_acl_doc.proofs.texts.item_texts.Goals as goal

pub loop-item-preserved : goal.loop-item-preserved
loop-item-preserved c =
    let xs = c.args.items.now in
    let i = c.loop-item.item-index in
    let here = item_at yaml_tree xs i c.item-item.result c.loop-item-test.true c.item-item.is in
    made_more c.loop-item.texts c.push.new.self (scalar_or_empty (yaml_tree c.item-item.result) ∷ []) _
    (map scalar_or_empty (drop (i + 1) (map yaml_tree xs))) _
    (c.in_ok-push.ensures.ok ∙ ap (λ t. c.loop-item.texts ++ t ∷ []) c.in_ok-text_of.ensures)
    (ap (map scalar_or_empty) here) c.loop-item.invariant
