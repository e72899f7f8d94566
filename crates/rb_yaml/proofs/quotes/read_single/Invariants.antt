use Rattle.std.proofs.Common.{◌≡◌, length, false, string_bytes}
use denote.Text.{Utf8}
use denote.Shadow.{shadow}
use Rattle.rb_yaml.specs.Quotes.{single_from}
use Rattle.rb_yaml.proofs.QuoteFacts.{with_front}
use Rattle.rb_yaml.proofs.quotes.read_single.Given as goal

-- what is read and what is left make up the text
abbrev pub invariant-loop-out : goal.invariant-loop-out
invariant-loop-out l = record {
  text : shadow (Utf8 l.rest);
  same : with_front (string_bytes l.out) (single_from false l.rest) ≡ single_from false l.text;
}

abbrev pub decreases-loop-out : goal.decreases-loop-out
decreases-loop-out l = length l.rest
