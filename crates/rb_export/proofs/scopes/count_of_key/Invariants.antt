use Rattle.std.proofs.Common.{◌≡◌, ◌+◌, drop}
use Rattle.rb_export.specs.Groups.{count_of_name}
use Rattle.rb_export.specs.Policies.{by_key}
use Rattle.rb_export.proofs.scopes.count_of_key.Given as goal

-- so many were counted, and what is left is counted too
abbrev pub invariant-loop-b : goal.invariant-loop-b
invariant-loop-b l =
    (l.count ≡ l.b-index)
    × (l.count + count_of_name by_key l.key (drop l.b-index l.by) ≡ count_of_name by_key l.key l.by)
