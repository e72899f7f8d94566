use Rattle.std.proofs.Common.{ap, subst}
use Rattle.rb_door.specs.declared.heeded.Heeded.{Heeded}
use Rattle.rb_session.specs.Visits.{PumpsBehind, standing}
use Rattle.rb_door.proofs.Goings.{goes_on_then}
use Rattle.rb_session.proofs.Pumping.{worker_stays}
use Rattle.rb_session.proofs.serving.handle_next.Goals as goal

pub pump_if-requires : goal.pump_if-requires
pump_if-requires g c = record {
  worker =
      worker_stays (g.C.Clerk.told c.args.clerk.now)
      (g.C.Clerk.told c.serve_next-heeded.new.clerk) c.serve_next-heeded.ensures.goes 0
      c.requires.worker;
}

pub returns-clause-goes : goal.returns-clause-goes
returns-clause-goes g c =
    goes_on_then (g.C.Clerk.told c.args.clerk.now) (g.C.Clerk.told c.serve_next-heeded.new.clerk)
    (g.C.Clerk.told c.pump_if.new.clerk) c.serve_next-heeded.ensures.goes c.pump_if.ensures.goes

pub returns-clause-handled : goal.returns-clause-handled
returns-clause-handled g c =
    let served = c.serve_next-heeded.ensures.served in
    let between = g.C.Clerk.told c.serve_next-heeded.new.clerk in (
      record { exchange = served.exchange; pump = c.pump_if.ensures.pumped.0 },
      record {
        is_one = served.is_one;
        line = served.line;
        between = between;
        clerk = served.clerk;
        pump = subst (λ b. PumpsBehind b (g.T.Clock.may_be c.args.clock.now) c.args.limit
            (standing between (g.S.Spawner.shown c.args.spawner.now))
            (standing (g.C.Clerk.told c.pump_if.new.clerk)
            (g.S.Spawner.shown c.pump_if.new.spawner)) c.pump_if.ensures.pumped.0)
            (ap (λ (h : Heeded). h.asked) served.told) c.pump_if.ensures.pumped.1;
      },
      ap (λ (h : Heeded). h.ended) served.told,
    )
