use Rattle.std.proofs.Common.{◌∙◌, ℤ, subst, sym, w64, to_z, of_z}
use Rattle.std.proofs.Math.Facts.{to_z-of_z}
use Rattle.rb_work.specs.Pumping.{HasWorkedOff}
use Rattle.rb_work.specs.Works.{Outside}
use Rattle.rb_work.specs.declared.pumped.Pumped.TheVariants.{Limit}
use Rattle.rb_work.proofs.Pumps.{Works, limit_reached, stopped, works_first, works_more}
use Rattle.rb_work.proofs.pumping.work.Goals as goal

pub loop-left-init : goal.loop-left-init
loop-left-init g c =
    works_first (to_z w64 (of_z w64 c.args.at)) c.args.worker c.args.limit
    (record {
      clerk = g.C.Clerk.told c.args.clerk.now;
      spawner = g.S.Spawner.shown c.args.spawner.now;
    })

pub loop-left-preserved : goal.loop-left-preserved
loop-left-preserved g c =
    let at : ℤ = to_z w64 (of_z w64 c.args.at) in
    let a : Outside = record {
      clerk = g.C.Clerk.told c.args.clerk.now;
      spawner = g.S.Spawner.shown c.args.spawner.now;
    } in
    let b : Outside = record {
      clerk = g.C.Clerk.told c.loop-left.clerk;
      spawner = g.S.Spawner.shown c.loop-left.spawner;
    } in
    let d : Outside = record {
      clerk = g.C.Clerk.told c.work_one.new.clerk;
      spawner = g.S.Spawner.shown c.work_one.new.spawner;
    } in
    subst (λ left. Works at c.args.worker c.args.limit left a d) (sym c.fewer-left.ensures)
    (works_more c.pump_laws.ensures at c.args.worker c.args.limit c.loop-left.left a b d
    c.loop-left.invariant (sym c.may_start.ensures ∙ c.loop-left-test.true) c.in-Ok.ensures.one)

pub returns-in-Err : goal.returns-in-Err
returns-in-Err g c =
    let at : ℤ = to_z w64 (of_z w64 c.args.at) in
    let a : Outside = record {
      clerk = g.C.Clerk.told c.args.clerk.now;
      spawner = g.S.Spawner.shown c.args.spawner.now;
    } in
    let b : Outside = record {
      clerk = g.C.Clerk.told c.loop-left.clerk;
      spawner = g.S.Spawner.shown c.loop-left.spawner;
    } in
    let d : Outside = record {
      clerk = g.C.Clerk.told c.work_one.new.clerk;
      spawner = g.S.Spawner.shown c.work_one.new.spawner;
    } in
    subst (λ at. HasWorkedOff at c.args.worker c.args.limit a d c.in-Err.said)
    (to_z-of_z c.ranges.at)
    (stopped c.pump_laws.ensures at c.args.worker c.args.limit c.loop-left.left a b d
    c.in-Err.said c.loop-left.invariant (sym c.may_start.ensures ∙ c.loop-left-test.true)
    c.in-Err.ensures.stopped)

pub returns : goal.returns
returns g c =
    let a : Outside = record {
      clerk = g.C.Clerk.told c.args.clerk.now;
      spawner = g.S.Spawner.shown c.args.spawner.now;
    } in
    let b : Outside = record {
      clerk = g.C.Clerk.told c.loop-left.clerk;
      spawner = g.S.Spawner.shown c.loop-left.spawner;
    } in
    subst (λ at. HasWorkedOff at c.args.worker c.args.limit a b Limit) (to_z-of_z c.ranges.at)
    (limit_reached (to_z w64 (of_z w64 c.args.at)) c.args.worker c.args.limit c.loop-left.left
    a b c.loop-left.invariant (sym c.may_start.ensures ∙ c.loop-left-test.false))
