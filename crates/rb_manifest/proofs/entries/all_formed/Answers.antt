use Rattle.std.proofs.Common.{◌+◌, drop, map, sym, ◌∙◌}
use Rattle.rb_causes.proofs.Lists.{item_at}
use Rattle.rb_yaml.specs.Tree.{yaml_tree}
use Rattle.rb_values.specs.Values.{entries_in}
use Rattle.rb_values.proofs.Loops.{all_here, all_on}
use Rattle.rb_manifest.specs.Forms.{is_formed_map}
use Rattle.rb_manifest.specs.Rules.{form_of}
use Rattle.rb_manifest.proofs.entries.all_formed.Goals as goal

pub returns-then-not-is_formed : goal.returns-then-not-is_formed
returns-then-not-is_formed c =
    let vs = c.args.items.now in
    let i = c.loop-item.item-index in
    let v = c.item-item.result in
    let here = item_at yaml_tree vs i v c.loop-item-test.true c.item-item.is in
    all_here (λ item. is_formed_map (form_of c.args.kind).keys (entries_in item)) (yaml_tree v)
    (drop i (map yaml_tree vs)) (drop (i + 1) (map yaml_tree vs)) (map yaml_tree vs) here
    (sym c.is_formed.ensures ∙ c.if-not-is_formed.true) c.loop-item.invariant

pub loop-item-preserved : goal.loop-item-preserved
loop-item-preserved c =
    let vs = c.args.items.now in
    let i = c.loop-item.item-index in
    let v = c.item-item.result in
    let here = item_at yaml_tree vs i v c.loop-item-test.true c.item-item.is in
    all_on (λ item. is_formed_map (form_of c.args.kind).keys (entries_in item)) (yaml_tree v)
    (drop i (map yaml_tree vs)) (drop (i + 1) (map yaml_tree vs)) (map yaml_tree vs) here
    (sym c.is_formed.ensures ∙ c.if-not-is_formed.false) c.loop-item.invariant
