use Rattle.std.proofs.Common.{◌≡◌, drop}
use Rattle.rb_expand.specs.Expanded.{listed_text}
use Rattle.rb_expand.proofs.expanding.listed_text.Given as goal

-- what the names that are left list is what all list
abbrev pub invariant-loop-prop : goal.invariant-loop-prop
invariant-loop-prop l = listed_text (drop l.prop-index l.names) l.wanted ≡ listed_text l.names l.wanted
