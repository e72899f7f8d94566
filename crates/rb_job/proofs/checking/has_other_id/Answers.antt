use Rattle.std.proofs.Common.{◌+◌, drop, map, sym, ◌∙◌}
use Rattle.std.specs.Option.{option_copied}
use Rattle.rb_causes.proofs.Lists.{item_at}
use Rattle.rb_yaml.specs.Tree.{pair_tree}
use Rattle.rb_job.specs.Doubts.{is_other_id}
use Rattle.rb_job.proofs.Loops.{any_here, any_on}
use Rattle.rb_job.proofs.checking.has_other_id.Goals as goal

pub returns-then-is_other_id : goal.returns-then-is_other_id
returns-then-is_other_id c =
    let es = c.args.before.now in
    let here = item_at pair_tree es c.loop-entry.entry-index c.entry-item.result c.loop-entry-test.true c.entry-item.is in
    any_here (is_other_id (option_copied c.args.text)) (pair_tree c.entry-item.result) (drop c.loop-entry.entry-index (map pair_tree es)) (drop (c.loop-entry.entry-index + 1) (map pair_tree es)) (map pair_tree es)
    here (sym c.is_other_id.ensures ∙ c.if-is_other_id.true) c.loop-entry.invariant

pub loop-entry-preserved : goal.loop-entry-preserved
loop-entry-preserved c =
    let es = c.args.before.now in
    let here = item_at pair_tree es c.loop-entry.entry-index c.entry-item.result c.loop-entry-test.true c.entry-item.is in
    any_on (is_other_id (option_copied c.args.text)) (pair_tree c.entry-item.result) (drop c.loop-entry.entry-index (map pair_tree es)) (drop (c.loop-entry.entry-index + 1) (map pair_tree es)) (map pair_tree es)
    here (sym c.is_other_id.ensures ∙ c.if-is_other_id.false) c.loop-entry.invariant
