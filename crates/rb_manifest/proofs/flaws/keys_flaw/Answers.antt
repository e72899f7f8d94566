use Rattle.std.proofs.Common.{◌∙◌, ◌+◌, drop, map, sym}
use Rattle.rb_causes.proofs.Lists.{item_at}
use Rattle.rb_yaml.specs.Tree.{pair_tree}
use Rattle.rb_manifest.specs.Keys.{flaws_under, manifest_keys}
use Rattle.rb_manifest.proofs.Firsts.{flat_here, flat_on}
use Rattle.rb_manifest.proofs.flaws.keys_flaw.Goals as goal

pub returns-then-is_some : goal.returns-then-is_some
returns-then-is_some c =
    let xs = c.args.entries.now in
    let i = c.loop-entry.entry-index in
    let x = c.entry-item.result in
    let here = item_at pair_tree xs i x c.loop-entry-test.true c.entry-item.is in
    flat_here (flaws_under manifest_keys) (pair_tree x) _ (drop (i + 1) (map pair_tree xs))
    c.in_ok-flaw.flaw _ here c.in_ok-flaw.ensures (sym c.is_some.ensures ∙ c.if-is_some.true)
    c.loop-entry.invariant

pub loop-entry-preserved : goal.loop-entry-preserved
loop-entry-preserved c =
    let xs = c.args.entries.now in
    let i = c.loop-entry.entry-index in
    let x = c.entry-item.result in
    let here = item_at pair_tree xs i x c.loop-entry-test.true c.entry-item.is in
    flat_on (flaws_under manifest_keys) (pair_tree x) _ (drop (i + 1) (map pair_tree xs))
    c.in_ok-flaw.flaw _ here c.in_ok-flaw.ensures (sym c.is_some.ensures ∙ c.if-is_some.false)
    c.loop-entry.invariant
