use Rattle.std.proofs.Common.{Contains, None, ap, arith, refl, subst, sym}
use Rattle.rb_causes.proofs.Written.{rose_since}
use Rattle.rb_door.proofs.Goings.{goes_on_then}
use Rattle.rb_session.proofs.Pumping.{door_stays, pump_told, pumped_goes_on, worker_stays}
use Rattle.rb_session.specs.Visits.{scene, standing}
use Rattle.rb_session.specs.declared.farewell.CallersEnd.{CallersEnd}
use Rattle.rb_session.proofs.serving.run_course.Goals as goal

pub serve_line-callers-requires-clause-worker : goal.serve_line-callers-requires-clause-worker
serve_line-callers-requires-clause-worker g c =
    worker_stays (g.C.Clerk.told c.args.clerk.now) (g.C.Clerk.told c.pump-first.new.clerk)
    (pumped_goes_on _ 0 _ _ _ _ c.pump-first.ensures.pumped) 0 c.requires.worker

pub close_door-requires : goal.close_door-requires
close_door-requires g c = record {
  door =
      door_stays (g.C.Clerk.told c.args.clerk.now) (g.C.Clerk.told c.serve_line-callers.new.clerk)
      (goes_on_then _ _ _ (pumped_goes_on _ 0 _ _ _ _ c.pump-first.ensures.pumped)
      c.serve_line-callers.ensures.goes) 0 c.requires.door;
}

pub pump-last-requires : goal.pump-last-requires
pump-last-requires g c =
    subst (λ ws. Contains ws 0) (sym c.close_door.ensures.workers)
    (worker_stays (g.C.Clerk.told c.args.clerk.now) (g.C.Clerk.told c.serve_line-callers.new.clerk)
    (goes_on_then _ _ _ (pumped_goes_on _ 0 _ _ _ _ c.pump-first.ensures.pumped)
    c.serve_line-callers.ensures.goes) 0 c.requires.worker)

pub returns-clause-clerk : goal.returns-clause-clerk
returns-clause-clerk g c =
    let first = (pumped_goes_on _ 0 _ _ _ _ c.pump-first.ensures.pumped).faults in
    let last = (pumped_goes_on _ 0 _ _ _ _ c.pump-last.ensures.pumped).faults in
    omega (arith, first, c.serve_line-callers.ensures.goes.faults, c.close_door.ensures.faults, last)

pub returns-clause-store : goal.returns-clause-store
returns-clause-store g c = λ e.
    let first = (pumped_goes_on _ 0 _ _ _ _ c.pump-first.ensures.pumped).faults in
    rose_since (g.C.Clerk.told c.args.clerk.now).faults
    (g.C.Clerk.told c.close_door.new.clerk).faults _
    (omega (arith, first, c.serve_line-callers.ensures.goes.faults, c.close_door.ensures.faults))
    (c.pump-last.ensures.store e)

pub returns-clause-runs : goal.returns-clause-runs
returns-clause-runs g c =
    let line = c.serve_line-callers.ensures.served in
    let closed = c.close_door.ensures.closed in
    let spawner = g.S.Spawner.shown c.serve_line-callers.new.spawner in
    let first = pump_told _ c.args.limit _
    (standing (g.C.Clerk.told c.pump-first.new.clerk) (g.S.Spawner.shown c.pump-first.new.spawner))
    c.pump-first.result c.pump-first.ensures.pumped in
    let last = pump_told _ None (standing (g.C.Clerk.told c.close_door.new.clerk) spawner)
    (standing (g.C.Clerk.told c.pump-last.new.clerk) (g.S.Spawner.shown c.pump-last.new.spawner))
    c.pump-last.result c.pump-last.ensures.pumped in (
      record {
        first = first.0;
        stays = line.stays;
        parting = line.parting;
        close = closed.0;
        last = last.0;
      },
      record {
        ready = scene (g.C.Clerk.told c.pump-first.new.clerk)
            (g.S.Spawner.shown c.pump-first.new.spawner) (g.L.Line.callers c.args.line.now)
            c.args.buffer.now;
        served = scene (g.C.Clerk.told c.serve_line-callers.new.clerk) spawner
            (g.L.Line.callers c.serve_line-callers.new.line) c.serve_line-callers.new.buffer;
        closed = g.C.Clerk.told c.close_door.new.clerk;
        line = refl;
        first = first.1;
        callers = line.served;
        close = closed.1;
        last = last.1;
        line_after = refl;
      },
      ap (λ (e : CallersEnd). record { callers = e; last = c.pump-last.result }) line.is_told,
    )
