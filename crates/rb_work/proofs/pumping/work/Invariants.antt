use Rattle.std.proofs.Common.{◌-◌, length}
use Rattle.rb_work.proofs.Pumps.{Works}
use Rattle.rb_work.proofs.pumping.work.Given as goal

-- the works so far were done
abbrev pub invariant-loop-left : goal.invariant-loop-left
invariant-loop-left g l =
    Works l.at l.worker l.fn.limit l.left
    (record { clerk = g.C.Clerk.told l.fn.clerk; spawner = g.S.Spawner.shown l.fn.spawner })
    (record { clerk = g.C.Clerk.told l.clerk; spawner = g.S.Spawner.shown l.spawner })

-- each task adds a row, and the log never passes its room
abbrev pub decreases-loop-left : goal.decreases-loop-left
decreases-loop-left g l =
    (g.C.Clerk.told l.clerk).room - length (g.C.Clerk.told l.clerk).log
