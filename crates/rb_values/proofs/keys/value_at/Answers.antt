use Rattle.std.proofs.Common.{◌+◌, Some, bytes_eq, drop, map, ap, sym, ◌∙◌}
use Rattle.rb_causes.proofs.Lists.{item_at}
use Rattle.rb_yaml.specs.Tree.{pair_tree}
use Rattle.rb_values.proofs.Loops.{value_here, value_on}
use Rattle.rb_values.proofs.keys.value_at.Goals as goal

pub returns-then-eq : goal.returns-then-eq
returns-then-eq c =
    let es = c.args.entries.now in
    let i = c.loop-entry.entry-index in
    let e = c.entry-item.result in
    let here = item_at pair_tree es i e c.loop-entry-test.true c.entry-item.is in
    ap Some c.value_of.ensures
    ∙ value_here (pair_tree e) c.args.key.now (drop i (map pair_tree es))
    (drop (i + 1) (map pair_tree es)) (map pair_tree es) here
    (sym (ap (λ k. bytes_eq k c.args.key.now) c.key_of.ensures) ∙ sym c.eq.ensures ∙ c.if-eq.true)
    c.loop-entry.invariant

pub loop-entry-preserved : goal.loop-entry-preserved
loop-entry-preserved c =
    let es = c.args.entries.now in
    let i = c.loop-entry.entry-index in
    let e = c.entry-item.result in
    let here = item_at pair_tree es i e c.loop-entry-test.true c.entry-item.is in
    value_on (pair_tree e) c.args.key.now (drop i (map pair_tree es))
    (drop (i + 1) (map pair_tree es)) (map pair_tree es) here
    (sym (ap (λ k. bytes_eq k c.args.key.now) c.key_of.ensures) ∙ sym c.eq.ensures ∙ c.if-eq.false)
    c.loop-entry.invariant
