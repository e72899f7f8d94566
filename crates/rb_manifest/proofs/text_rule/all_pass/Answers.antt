use Rattle.std.proofs.Common.{◌+◌, drop, map, sym, ◌∙◌}
use Rattle.rb_causes.proofs.Lists.{item_at}
use Rattle.rb_yaml.specs.Tree.{yaml_tree}
use Rattle.rb_values.proofs.Loops.{all_here, all_on}
use Rattle.rb_manifest.specs.Forms.{is_text_with}
use Rattle.rb_manifest.specs.Rules.{test_of}
use Rattle.rb_manifest.proofs.text_rule.all_pass.Goals as goal

pub returns-then-not-is_text_with : goal.returns-then-not-is_text_with
returns-then-not-is_text_with c =
    let vs = c.args.items.now in
    let i = c.loop-item.item-index in
    let v = c.item-item.result in
    let here = item_at yaml_tree vs i v c.loop-item-test.true c.item-item.is in
    all_here (is_text_with (test_of c.args.rule)) (yaml_tree v) (drop i (map yaml_tree vs))
    (drop (i + 1) (map yaml_tree vs)) (map yaml_tree vs) here
    (sym c.is_text_with.ensures ∙ c.if-not-is_text_with.true) c.loop-item.invariant

pub loop-item-preserved : goal.loop-item-preserved
loop-item-preserved c =
    let vs = c.args.items.now in
    let i = c.loop-item.item-index in
    let v = c.item-item.result in
    let here = item_at yaml_tree vs i v c.loop-item-test.true c.item-item.is in
    all_on (is_text_with (test_of c.args.rule)) (yaml_tree v) (drop i (map yaml_tree vs))
    (drop (i + 1) (map yaml_tree vs)) (map yaml_tree vs) here
    (sym c.is_text_with.ensures ∙ c.if-not-is_text_with.false) c.loop-item.invariant
