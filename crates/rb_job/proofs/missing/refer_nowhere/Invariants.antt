use Rattle.std.proofs.Common.{◌≡◌, drop, map}
use Rattle.std.specs.List.{list_any}
use Rattle.rb_yaml.specs.Tree.{yaml_tree}
use Rattle.rb_job.specs.Missing.{refers_nowhere}
use Rattle.rb_job.proofs.missing.refer_nowhere.Given as goal

-- one of the commands that are left refers nowhere where one of all does
abbrev pub invariant-loop-command : goal.invariant-loop-command
invariant-loop-command l = list_any refers_nowhere (drop l.command-index (map yaml_tree l.commands)) ≡ list_any refers_nowhere (map yaml_tree l.commands)
