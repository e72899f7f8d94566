use Rattle.std.proofs.Common.{◌≡◌, drop}
use Rattle.std.specs.List.{list_all}
use Rattle.rb_causes.specs.Texts.{is_blank}
use Rattle.rb_yaml.proofs.rows.is_blank_line.Given as goal

abbrev pub invariant-loop-byte : goal.invariant-loop-byte
invariant-loop-byte l = list_all is_blank (drop l.byte-index l.line.text) ≡ list_all is_blank l.line.text
