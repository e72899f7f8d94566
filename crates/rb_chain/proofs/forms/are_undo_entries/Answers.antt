use Rattle.std.proofs.Common.{◌+◌, drop, map, sym, ◌∙◌}
use Rattle.rb_causes.proofs.Lists.{item_at}
use Rattle.rb_yaml.specs.Tree.{pair_tree}
use Rattle.rb_values.proofs.Loops.{all_here, all_on}
use Rattle.rb_chain.specs.Forms.{is_undo_entry}
use Rattle.rb_chain.proofs.forms.are_undo_entries.Goals as goal

pub returns-then-not-is_undo_entry : goal.returns-then-not-is_undo_entry
returns-then-not-is_undo_entry c =
    let es = c.args.entries.now in
    let i = c.loop-entry.entry-index in
    let e = c.entry-item.result in
    let here = item_at pair_tree es i e c.loop-entry-test.true c.entry-item.is in
    all_here is_undo_entry (pair_tree e) (drop i (map pair_tree es))
    (drop (i + 1) (map pair_tree es)) (map pair_tree es) here
    (sym c.is_undo_entry.ensures ∙ c.if-not-is_undo_entry.true) c.loop-entry.invariant

pub loop-entry-preserved : goal.loop-entry-preserved
loop-entry-preserved c =
    let es = c.args.entries.now in
    let i = c.loop-entry.entry-index in
    let e = c.entry-item.result in
    let here = item_at pair_tree es i e c.loop-entry-test.true c.entry-item.is in
    all_on is_undo_entry (pair_tree e) (drop i (map pair_tree es))
    (drop (i + 1) (map pair_tree es)) (map pair_tree es) here
    (sym c.is_undo_entry.ensures ∙ c.if-not-is_undo_entry.false) c.loop-entry.invariant
