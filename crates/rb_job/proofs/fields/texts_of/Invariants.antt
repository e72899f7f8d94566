use Rattle.std.proofs.Common.{◌≡◌, take, map}
use Rattle.rb_values.specs.Values.{scalar_or_empty}
use Rattle.rb_yaml.specs.Tree.{yaml_tree}
use Rattle.rb_job.proofs.fields.texts_of.Given as goal

abbrev pub invariant-loop-value : goal.invariant-loop-value
invariant-loop-value l = l.texts ≡ map scalar_or_empty (map yaml_tree (take l.value-index l.values))
