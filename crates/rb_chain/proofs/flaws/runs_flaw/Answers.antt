use Rattle.std.proofs.Common.{◌+◌, ◌∙◌, drop, map, sym}
use Rattle.rb_causes.proofs.Lists.{item_at}
use Rattle.rb_yaml.specs.Tree.{yaml_tree}
use Rattle.rb_chain.proofs.Firsts.{run_here, run_on}
use Rattle.rb_chain.proofs.flaws.runs_flaw.Goals as goal

pub returns-then-is_some : goal.returns-then-is_some
returns-then-is_some c =
    let xs = c.args.values.now in
    let i = c.loop-before.before in
    let x = c.index-values-before.result in
    let here = item_at yaml_tree xs i x c.loop-before-test.true c.index-values-before.is in
    run_here (i + 1) (yaml_tree x) _ (drop (i + 1) (map yaml_tree xs)) c.in_ok-flaw.flaw _ here
    c.in_ok-flaw.ensures (sym c.is_some.ensures ∙ c.if-is_some.true) c.loop-before.invariant

pub loop-before-preserved : goal.loop-before-preserved
loop-before-preserved c =
    let xs = c.args.values.now in
    let i = c.loop-before.before in
    let x = c.index-values-before.result in
    let here = item_at yaml_tree xs i x c.loop-before-test.true c.index-values-before.is in
    run_on (i + 1) (yaml_tree x) _ (drop (i + 1) (map yaml_tree xs)) c.in_ok-flaw.flaw _ here
    c.in_ok-flaw.ensures (sym c.is_some.ensures ∙ c.if-is_some.false) c.loop-before.invariant
