use Rattle.std.proofs.Common.{◌≡◌, length}
use Rattle.rundeskd.proofs.crew_serving.child_spawners.Given as goal

-- so many spawners are there
abbrev pub invariant-loop-number : goal.invariant-loop-number
invariant-loop-number l = length l.spawners.items ≡ l._number
