use Rattle.std.proofs.Common.{◌≡◌, ◌-◌, List, length, All}
use Rattle.rb_log.specs.Acted.{Acted}
use Rattle.rb_log.specs.Records.{Record}
use Rattle.rb_work.specs.Works.{IsWithdrawal}
use Rattle.rb_work.proofs.hearing.claim.Given as goal

-- the Claims so far withdrew nodes
abbrev pub invariant-loop-answer : goal.invariant-loop-answer
invariant-loop-answer g l =
    (withdrawals : List Record) × All (IsWithdrawal l.at l.worker) withdrawals
    × Acted (g.C.Clerk.told l.fn.clerk) (g.C.Clerk.told l.clerk) withdrawals
    × ((g.C.Clerk.told l.clerk).rights ≡ (g.C.Clerk.told l.fn.clerk).rights)

-- each withdrawal adds a row, and the log never passes its room
abbrev pub decreases-loop-answer : goal.decreases-loop-answer
decreases-loop-answer g l =
    (g.C.Clerk.told l.clerk).room - length (g.C.Clerk.told l.clerk).log
