use Rattle.std.proofs.Common.{◌+◌, drop, map, sym, ◌∙◌}
use Rattle.rb_causes.proofs.Lists.{item_at}
use Rattle.rb_yaml.specs.Tree.{yaml_tree}
use Rattle.rb_values.specs.Values.{is_text}
use Rattle.rb_values.proofs.Loops.{all_here, all_on}
use Rattle.rb_values.proofs.values.are_texts.Goals as goal

pub returns-then-not-is_text : goal.returns-then-not-is_text
returns-then-not-is_text c =
    let vs = c.args.values.now in
    let i = c.loop-value.value-index in
    let v = c.value-item.result in
    let here = item_at yaml_tree vs i v c.loop-value-test.true c.value-item.is in
    all_here is_text (yaml_tree v) (drop i (map yaml_tree vs)) (drop (i + 1) (map yaml_tree vs))
    (map yaml_tree vs) here (sym c.is_text.ensures ∙ c.if-not-is_text.true) c.loop-value.invariant

pub loop-value-preserved : goal.loop-value-preserved
loop-value-preserved c =
    let vs = c.args.values.now in
    let i = c.loop-value.value-index in
    let v = c.value-item.result in
    let here = item_at yaml_tree vs i v c.loop-value-test.true c.value-item.is in
    all_on is_text (yaml_tree v) (drop i (map yaml_tree vs)) (drop (i + 1) (map yaml_tree vs))
    (map yaml_tree vs) here (sym c.is_text.ensures ∙ c.if-not-is_text.false) c.loop-value.invariant
