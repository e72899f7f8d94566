use Rattle.rb_demo.proofs.Open.{never_closed}
use Rattle.rb_demo.proofs.rounds.work_if.Goals as goal

pub pump-requires : goal.pump-requires
pump-requires g c = c.requires.ready.worker

pub unreachable-requires : goal.unreachable-requires
unreachable-requires g c =
    never_closed c.claim_answers.ensures _ _
    (record {
      clerk = g.C.Clerk.told c.args.clerk.now;
      spawner = g.S.Spawner.shown c.args.spawner.now;
    })
    (record {
      clerk = g.C.Clerk.told c.pump.new.clerk;
      spawner = g.S.Spawner.shown c.pump.new.spawner;
    })
    (c.requires.alone.rights c.pump.new.clerk) c.requires.ready.door c.in-Closed.ensures.pumped
