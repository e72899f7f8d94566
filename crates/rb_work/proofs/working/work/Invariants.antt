use Rattle.std.proofs.Common.{◌≡◌, ◌≤◌, Contains}
use Rattle.rb_work.proofs.WorkedOn.{GoesOn}
use Rattle.rb_work.proofs.working.work.Given as goal

-- the pumps so far, none of which ended it
abbrev pub invariant-loop : goal.invariant-loop
invariant-loop g l =
    let told = g.C.Clerk.told in
    let shown = g.S.Spawner.shown in
    record {
      worker : Contains (told l.clerk).rights.workers l.worker;
      pumps : GoesOn (g.T.Clock.may_be l.clock) l.worker
          (record { clerk = told l.fn.clerk; spawner = shown l.fn.spawner })
          (record { clerk = told l.clerk; spawner = shown l.spawner }) l.bad;
      clerk : (told l.fn.clerk).faults ≤ (told l.clerk).faults;
      who : (told l.clerk).who ≡ (told l.fn.clerk).who;
      spawner : (shown l.fn.spawner).faults ≤ (shown l.spawner).faults;
    }
