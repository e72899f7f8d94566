use Rattle.std.proofs.Common.{◌≡◌, ◌-◌, length}
use Rattle.rb_work.proofs.Ticked.{HasFired}
use Rattle.rb_work.proofs.pumping.fire.Given as goal

-- the Ticks so far fired
abbrev pub invariant-loop : goal.invariant-loop
invariant-loop g l =
    HasFired l.at (g.C.Clerk.told l.fn.clerk) (g.C.Clerk.told l.clerk)
    × (g.S.Spawner.shown l.spawner ≡ g.S.Spawner.shown l.fn.spawner)

-- each Tick that fires adds a row, and the log never passes its room
abbrev pub decreases-loop : goal.decreases-loop
decreases-loop g l =
    (g.C.Clerk.told l.clerk).room - length (g.C.Clerk.told l.clerk).log
