use Rattle.std.proofs.Common.{◌≡◌, drop}
use Rattle.rb_yaml.specs.Signs.{tab_leads}
use Rattle.rb_yaml.proofs.signs.tab_leads.Given as goal

abbrev pub invariant-loop-byte : goal.invariant-loop-byte
invariant-loop-byte l = tab_leads (drop l.byte-index l.text) ≡ tab_leads l.text
