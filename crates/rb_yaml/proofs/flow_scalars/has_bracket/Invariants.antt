use Rattle.std.proofs.Common.{◌≡◌, drop}
use Rattle.std.specs.List.{list_any}
use Rattle.rb_yaml.specs.FlowScalars.{is_bracket}
use Rattle.rb_yaml.proofs.flow_scalars.has_bracket.Given as goal

abbrev pub invariant-loop-byte : goal.invariant-loop-byte
invariant-loop-byte l = list_any is_bracket (drop l.byte-index l.text) ≡ list_any is_bracket l.text
