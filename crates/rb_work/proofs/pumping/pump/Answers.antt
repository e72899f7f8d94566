use Rattle.std.proofs.Common.{Contains, ℤ, subst, sym, SFits, w64, to_z, of_z}
use Rattle.std.proofs.Math.Facts.{to_z-of_z}
use Rattle.rb_log.specs.Legal.{Rights}
use Rattle.rb_log.specs.Told.{Told}
use Rattle.rb_work.specs.Pumping.{HasWorkedOff}
use Rattle.rb_work.specs.Works.{Outside}
use Rattle.rb_work.proofs.Pumps.{has_pumped, store_rose}
use Rattle.rb_work.proofs.pumping.pump.Goals as goal

pub work-requires-clause-worker : goal.work-requires-clause-worker
work-requires-clause-worker g c =
    subst (λ (r : Rights). Contains r.workers c.args.worker) (sym c.fire.ensures.ticked.1.rights)
    c.requires

pub returns-clause-pumped : goal.returns-clause-pumped
returns-clause-pumped g c =
    let at : ℤ = to_z w64 (of_z w64 c.now-at.result) in
    let fits : SFits w64 c.now-at.result = record { sfits = c.now-at.type_inv } in
    let mid : Told = g.C.Clerk.told c.fire.new.clerk in
    let b : Outside = record {
      clerk = g.C.Clerk.told c.work.new.clerk;
      spawner = g.S.Spawner.shown c.work.new.spawner;
    } in
    has_pumped (g.T.Clock.may_be c.args.clock.now) at c.args.worker c.args.limit
    (record {
      clerk = g.C.Clerk.told c.args.clerk.now;
      spawner = g.S.Spawner.shown c.args.spawner.now;
    })
    b mid c.work.result
    (subst (λ t. g.T.Clock.may_be c.args.clock.now t) (sym (to_z-of_z fits))
    c.now-at.ensures.may_be)
    c.fire.ensures.ticked
    (subst (λ s. HasWorkedOff at c.args.worker c.args.limit (record { clerk = mid; spawner = s }) b
    c.work.result) c.fire.ensures.still c.work.ensures)

pub returns-clause-store : goal.returns-clause-store
returns-clause-store g c =
    store_rose (g.T.Clock.may_be c.args.clock.now) c.args.worker c.args.limit
    (record {
      clerk = g.C.Clerk.told c.args.clerk.now;
      spawner = g.S.Spawner.shown c.args.spawner.now;
    })
    (record {
      clerk = g.C.Clerk.told c.work.new.clerk;
      spawner = g.S.Spawner.shown c.work.new.spawner;
    })
    c.work.result (returns-clause-pumped g c)

pub returns-clause-faults : goal.returns-clause-faults
returns-clause-faults g c = (returns-clause-pumped g c).worked.ran.faults
