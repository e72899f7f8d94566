use Rattle.std.proofs.Common.{◌∙◌, arith}
use Rattle.rb_work.specs.Works.{Outside}
use Rattle.rb_work.proofs.WorkedOn.{goes_on, pumped_faults, pumped_who, still_worker}
use Rattle.rb_work.proofs.working.work.Goals as goal

pub loop-preserved : goal.loop-preserved
loop-preserved g c =
    let i = c.loop.invariant in
    let may_be = g.T.Clock.may_be c.args.clock.now in
    let old : Outside = record {
      clerk = g.C.Clerk.told c.args.clerk.now;
      spawner = g.S.Spawner.shown c.args.spawner.now;
    } in
    let now : Outside = record {
      clerk = g.C.Clerk.told c.loop.clerk;
      spawner = g.S.Spawner.shown c.loop.spawner;
    } in
    let next : Outside = record {
      clerk = g.C.Clerk.told c.pump-said.new.clerk;
      spawner = g.S.Spawner.shown c.pump-said.new.spawner;
    } in
    let one = c.pump-said.ensures.pumped in
    let later = pumped_faults may_be c.args.worker now next c.pump-said.result one in
    record {
      worker = still_worker may_be c.args.worker now next c.pump-said.result one i.worker;
      pumps = goes_on may_be c.args.worker old now next c.loop.bad c.pump-said.result i.pumps one
          c.bad_after-bad.result c.bad_after-bad.ensures
          (c.is_closed.ensures.no c.if-is_closed.false) c.if-bad-eq-MOST_BAD.false;
      clerk = omega (arith, i.clerk, later);
      who = pumped_who may_be c.args.worker now next c.pump-said.result one ∙ i.who;
      spawner = omega (arith, i.spawner, c.pump-said.ensures.faults);
    }

pub returns-then-is_closed-clause-clerk : goal.returns-then-is_closed-clause-clerk
returns-then-is_closed-clause-clerk g c =
    let later = pumped_faults _ _ _ _ _ c.pump-said.ensures.pumped in
    omega (arith, c.loop.invariant.clerk, later)

pub returns-then-is_closed-clause-who : goal.returns-then-is_closed-clause-who
returns-then-is_closed-clause-who g c =
    pumped_who _ _ _ _ _ c.pump-said.ensures.pumped ∙ c.loop.invariant.who

pub returns-then-bad-eq-MOST_BAD-clause-clerk : goal.returns-then-bad-eq-MOST_BAD-clause-clerk
returns-then-bad-eq-MOST_BAD-clause-clerk g c =
    let later = pumped_faults _ _ _ _ _ c.pump-said.ensures.pumped in
    omega (arith, c.loop.invariant.clerk, later)

pub returns-then-bad-eq-MOST_BAD-clause-who : goal.returns-then-bad-eq-MOST_BAD-clause-who
returns-then-bad-eq-MOST_BAD-clause-who g c =
    pumped_who _ _ _ _ _ c.pump-said.ensures.pumped ∙ c.loop.invariant.who
