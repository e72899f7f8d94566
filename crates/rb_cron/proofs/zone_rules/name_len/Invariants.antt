use Rattle.std.proofs.Common.{◌≡◌, ◌+◌, drop}
use Rattle.std.specs.List.{prefix_len}
use Rattle.rb_cron.specs.ZoneRules.{is_zone_name_byte}
use Rattle.rb_cron.proofs.zone_rules.name_len.Given as goal

-- all so far pass
abbrev pub invariant-loop-b : goal.invariant-loop-b
invariant-loop-b l = record {
  at : l.len ≡ l.b-index;
  rest : l.len + prefix_len is_zone_name_byte (drop l.b-index l.text) ≡ prefix_len is_zone_name_byte l.text;
}
