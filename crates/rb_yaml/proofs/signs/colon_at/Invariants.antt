use Rattle.std.proofs.Common.{◌≡◌, ◌+◌, drop, false, option_map}
use Rattle.rb_yaml.specs.Signs.{colon_at}
use Rattle.rb_yaml.proofs.signs.colon_at.Given as goal

abbrev pub invariant-loop-at : goal.invariant-loop-at
invariant-loop-at l = option_map (λ k. l.at + k) (colon_at l.blank (drop l.at l.text)) ≡ colon_at false l.text
