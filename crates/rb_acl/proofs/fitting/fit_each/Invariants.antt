use Rattle.std.proofs.Common.{◌≡◌}
use Rattle.rb_acl.proofs.fitting.fit_each.Given as goal

-- the items are what they were
abbrev pub invariant-loop-item : goal.invariant-loop-item
invariant-loop-item T l = l.item-items ≡ l.fn.items
