use Rattle.std.proofs.Common.{Some, subst, sym}
use Rattle.rb_door.proofs.Goings.{goes_on_refl}
use Rattle.rb_session.proofs.Pumping.{pump_told, pumped_goes_on}
use Rattle.rb_session.specs.Visits.{PumpsBehind, standing}
use Rattle.rb_session.proofs.serving.pump_if.Goals as goal

pub returns-then-not-asked-clause-goes : goal.returns-then-not-asked-clause-goes
returns-then-not-asked-clause-goes g c = goes_on_refl (g.C.Clerk.told c.args.clerk.now)

pub returns-clause-goes : goal.returns-clause-goes
returns-clause-goes g c =
    pumped_goes_on (g.T.Clock.may_be c.args.clock.now) 0 c.args.limit
    (record {
      clerk = g.C.Clerk.told c.args.clerk.now;
      spawner = g.S.Spawner.shown c.args.spawner.now;
    })
    (record {
      clerk = g.C.Clerk.told c.pump-said.new.clerk;
      spawner = g.S.Spawner.shown c.pump-said.new.spawner;
    })
    c.pump-said.result c.pump-said.ensures.pumped

pub returns-clause-pumped : goal.returns-clause-pumped
returns-clause-pumped g c =
    let old = standing (g.C.Clerk.told c.args.clerk.now) (g.S.Spawner.shown c.args.spawner.now) in
    let new = standing (g.C.Clerk.told c.pump-said.new.clerk)
    (g.S.Spawner.shown c.pump-said.new.spawner) in
    let may_be = g.T.Clock.may_be c.args.clock.now in
    let pump = pump_told may_be c.args.limit old new c.pump-said.result c.pump-said.ensures.pumped in (
      Some pump.0,
      subst (λ b. PumpsBehind b may_be c.args.limit old new (Some pump.0))
          (sym c.if-not-asked.false) pump.1,
    )
