use Rattle.std.proofs.Common.{◌+◌, drop, map, sym, ◌∙◌}
use Rattle.rb_causes.proofs.Lists.{item_at}
use Rattle.rb_yaml.specs.Tree.{yaml_tree}
use Rattle.rb_job.specs.Missing.{refers_nowhere}
use Rattle.rb_job.proofs.Loops.{any_here, any_on}
use Rattle.rb_job.proofs.missing.refer_nowhere.Goals as goal

pub returns-then-refers_nowhere : goal.returns-then-refers_nowhere
returns-then-refers_nowhere c =
    let vs = c.args.commands.now in
    let here = item_at yaml_tree vs c.loop-command.command-index c.command-item.result c.loop-command-test.true c.command-item.is in
    any_here refers_nowhere (yaml_tree c.command-item.result) (drop c.loop-command.command-index (map yaml_tree vs)) (drop (c.loop-command.command-index + 1) (map yaml_tree vs)) (map yaml_tree vs)
    here (sym c.refers_nowhere.ensures ∙ c.if-refers_nowhere.true) c.loop-command.invariant

pub loop-command-preserved : goal.loop-command-preserved
loop-command-preserved c =
    let vs = c.args.commands.now in
    let here = item_at yaml_tree vs c.loop-command.command-index c.command-item.result c.loop-command-test.true c.command-item.is in
    any_on refers_nowhere (yaml_tree c.command-item.result) (drop c.loop-command.command-index (map yaml_tree vs)) (drop (c.loop-command.command-index + 1) (map yaml_tree vs)) (map yaml_tree vs)
    here (sym c.refers_nowhere.ensures ∙ c.if-refers_nowhere.false) c.loop-command.invariant
