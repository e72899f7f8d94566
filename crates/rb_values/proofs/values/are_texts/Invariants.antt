use Rattle.std.proofs.Common.{◌≡◌, drop, map}
use Rattle.std.specs.List.{list_all}
use Rattle.rb_yaml.specs.Tree.{yaml_tree}
use Rattle.rb_values.specs.Values.{is_text}
use Rattle.rb_values.proofs.values.are_texts.Given as goal

-- the values that are left are texts where all are
abbrev pub invariant-loop-value : goal.invariant-loop-value
invariant-loop-value l = list_all is_text (drop l.value-index (map yaml_tree l.values))
    ≡ list_all is_text (map yaml_tree l.values)
