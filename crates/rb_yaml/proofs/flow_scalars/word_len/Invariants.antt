use Rattle.std.proofs.Common.{◌≡◌, ◌≤◌, ◌+◌, ◌-◌, length, drop}
use Rattle.rb_yaml.specs.FlowScalars.{plain_len, word_len}
use Rattle.rb_yaml.proofs.flow_scalars.word_len.Given as goal

-- the bytes passed and those that are the scalar's yet are all of it
abbrev pub invariant-loop-at : goal.invariant-loop-at
invariant-loop-at l = record {
  within : l.at ≤ length l.text;
  same : l.at + plain_len l.key l.close l.blank (drop l.at l.text) ≡ word_len l.key l.close l.text;
}

abbrev pub decreases-loop-at : goal.decreases-loop-at
decreases-loop-at l = length l.text - l.at
