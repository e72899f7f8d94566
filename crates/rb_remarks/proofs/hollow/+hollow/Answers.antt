use Rattle.std.proofs.Common.{◌+◌, drop, map, ap, sym, ◌∙◌}
use Rattle.rb_causes.proofs.Lists.{item_at}
use Rattle.rb_yaml.specs.Tree.{yaml_tree, pair_tree}
use Rattle.rb_job.specs.Parts.{is_hollow}
use Rattle.rb_values.proofs.Trees.{pair_value}
use Rattle.rb_job.proofs.Hollow.{item_filled, item_hollow, entry_filled, entry_hollow}
use Rattle.rb_remarks.proofs.hollow.+hollow.Goals as goal

pub are_hollow-returns-then-not-is_hollow : goal.are_hollow-returns-then-not-is_hollow
are_hollow-returns-then-not-is_hollow t c =
    let vs = c.args.items.now in
    let here = item_at yaml_tree vs c.loop-item.item-index c.item-item.result c.loop-item-test.true c.item-item.is in
    item_filled (yaml_tree c.item-item.result) (drop c.loop-item.item-index (map yaml_tree vs)) (drop (c.loop-item.item-index + 1) (map yaml_tree vs)) (map yaml_tree vs)
    here (sym c.is_hollow.ensures ∙ c.if-not-is_hollow.true) c.loop-item.invariant

pub are_hollow-loop-item-preserved : goal.are_hollow-loop-item-preserved
are_hollow-loop-item-preserved t c =
    let vs = c.args.items.now in
    let here = item_at yaml_tree vs c.loop-item.item-index c.item-item.result c.loop-item-test.true c.item-item.is in
    item_hollow (yaml_tree c.item-item.result) (drop c.loop-item.item-index (map yaml_tree vs)) (drop (c.loop-item.item-index + 1) (map yaml_tree vs)) (map yaml_tree vs)
    here (sym c.is_hollow.ensures ∙ c.if-not-is_hollow.false) c.loop-item.invariant

pub have_hollow-returns-then-not-is_hollow : goal.have_hollow-returns-then-not-is_hollow
have_hollow-returns-then-not-is_hollow t c =
    let es = c.args.entries.now in
    let here = item_at pair_tree es c.loop-entry.entry-index c.entry-item.result c.loop-entry-test.true c.entry-item.is in
    entry_filled (pair_tree c.entry-item.result) (drop c.loop-entry.entry-index (map pair_tree es)) (drop (c.loop-entry.entry-index + 1) (map pair_tree es)) (map pair_tree es)
    here (ap is_hollow (pair_value c.entry-item.result) ∙ sym c.is_hollow.ensures ∙ c.if-not-is_hollow.true) c.loop-entry.invariant

pub have_hollow-loop-entry-preserved : goal.have_hollow-loop-entry-preserved
have_hollow-loop-entry-preserved t c =
    let es = c.args.entries.now in
    let here = item_at pair_tree es c.loop-entry.entry-index c.entry-item.result c.loop-entry-test.true c.entry-item.is in
    entry_hollow (pair_tree c.entry-item.result) (drop c.loop-entry.entry-index (map pair_tree es)) (drop (c.loop-entry.entry-index + 1) (map pair_tree es)) (map pair_tree es)
    here (ap is_hollow (pair_value c.entry-item.result) ∙ sym c.is_hollow.ensures ∙ c.if-not-is_hollow.false) c.loop-entry.invariant
