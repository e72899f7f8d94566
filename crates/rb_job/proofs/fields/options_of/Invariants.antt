use Rattle.std.proofs.Common.{◌≡◌, take, map}
use Rattle.rb_yaml.specs.Tree.{yaml_tree}
use Rattle.rb_job.specs.Fields.{option_of}
use Rattle.rb_job.proofs.fields.options_of.Given as goal

abbrev pub invariant-loop-item : goal.invariant-loop-item
invariant-loop-item l = l.options ≡ map option_of (map yaml_tree (take l.item-index l.items))
