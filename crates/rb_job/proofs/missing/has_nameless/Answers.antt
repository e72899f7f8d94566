use Rattle.std.proofs.Common.{◌+◌, drop, map, sym, ◌∙◌}
use Rattle.rb_causes.proofs.Lists.{item_at}
use Rattle.rb_yaml.specs.Tree.{yaml_tree}
use Rattle.rb_job.specs.Missing.{is_nameless}
use Rattle.rb_job.proofs.Loops.{any_here, any_on}
use Rattle.rb_job.proofs.missing.has_nameless.Goals as goal

pub returns-then-is_nameless : goal.returns-then-is_nameless
returns-then-is_nameless c =
    let vs = c.args.items.now in
    let here = item_at yaml_tree vs c.loop-item.item-index c.item-item.result c.loop-item-test.true c.item-item.is in
    any_here is_nameless (yaml_tree c.item-item.result) (drop c.loop-item.item-index (map yaml_tree vs)) (drop (c.loop-item.item-index + 1) (map yaml_tree vs)) (map yaml_tree vs)
    here (sym c.is_nameless.ensures ∙ c.if-is_nameless.true) c.loop-item.invariant

pub loop-item-preserved : goal.loop-item-preserved
loop-item-preserved c =
    let vs = c.args.items.now in
    let here = item_at yaml_tree vs c.loop-item.item-index c.item-item.result c.loop-item-test.true c.item-item.is in
    any_on is_nameless (yaml_tree c.item-item.result) (drop c.loop-item.item-index (map yaml_tree vs)) (drop (c.loop-item.item-index + 1) (map yaml_tree vs)) (map yaml_tree vs)
    here (sym c.is_nameless.ensures ∙ c.if-is_nameless.false) c.loop-item.invariant
