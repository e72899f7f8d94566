use Rattle.std.proofs.Common.{◌≡◌, ◌+◌, drop}
use Rattle.std.specs.List.{prefix_len}
use Rattle.std.specs.Char.{is_ascii_alphabetic}
use Rattle.rb_cron.proofs.zone_rules.letters_len.Given as goal

-- all so far pass
abbrev pub invariant-loop-b : goal.invariant-loop-b
invariant-loop-b l = record {
  at : l.len ≡ l.b-index;
  rest : l.len + prefix_len is_ascii_alphabetic (drop l.b-index l.text) ≡ prefix_len is_ascii_alphabetic l.text;
}
