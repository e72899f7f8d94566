use Rattle.std.proofs.Common.{◌≡◌, take, map}
use Rattle.rb_yaml.specs.Tree.{yaml_tree}
use Rattle.rb_job.specs.Fields.{step_of}
use Rattle.rb_job.proofs.fields.steps_of.Given as goal

abbrev pub invariant-loop-command : goal.invariant-loop-command
invariant-loop-command l = l.steps ≡ map step_of (map yaml_tree (take l.command-index l.commands))
