use Rattle.std.proofs.Common.{◌≡◌, ◌+◌, drop}
use Rattle.std.specs.List.{prefix_len}
use Rattle.rb_causes.specs.Numbers.{is_digit}
use Rattle.rb_cron.proofs.zone_rules.digits_len.Given as goal

-- all so far pass
abbrev pub invariant-loop-b : goal.invariant-loop-b
invariant-loop-b l = record {
  at : l.len ≡ l.b-index;
  rest : l.len + prefix_len is_digit (drop l.b-index l.text) ≡ prefix_len is_digit l.text;
}
