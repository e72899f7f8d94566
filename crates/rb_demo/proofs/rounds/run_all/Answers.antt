use Rattle.std.proofs.Common.{[], ◌∷◌, refl, inl, inr, arith}
use Rattle.rb_work.specs.Works.{Outside}
use Rattle.rb_demo.specs.Rounds.{setting_of}
use Rattle.rb_demo.proofs.ImportGoing.{imported_goes}
use Rattle.rb_demo.proofs.ImportedAll.{ready_imported}
use Rattle.rb_demo.proofs.Played.{three_refused}
use Rattle.rb_demo.proofs.RunGoing.{looser}
use Rattle.rb_demo.proofs.rounds.run_all.Goals as goal

pub round-requires-clause-ready : goal.round-requires-clause-ready
round-requires-clause-ready g c =
    ready_imported (setting_of c.args.nodes) (g.C.Clerk.told c.args.clerk.now)
    (g.C.Clerk.told c.import_all.new.clerk) c.in_ok-import_all.ensures c.requires.ready

pub round-requires-clause-job : goal.round-requires-clause-job
round-requires-clause-job g c = inl refl

pub round-requires-2-clause-job : goal.round-requires-2-clause-job
round-requires-2-clause-job g c = inr (inl refl)

pub round-requires-3-clause-job : goal.round-requires-3-clause-job
round-requires-3-clause-job g c = inr (inr refl)

pub round-requires-clause-going : goal.round-requires-clause-going
round-requires-clause-going g c =
    looser 0 2 (g.C.Clerk.told c.import_all.new.clerk) (omega arith)
    (imported_goes c.world_is_demo.ensures c.args.nodes c.requires.few.0 c.requires.few.1
    (g.C.Clerk.told c.args.clerk.now) (g.C.Clerk.told c.import_all.new.clerk)
    c.in_ok-import_all.ensures c.requires.log.room)

pub round-requires-2-clause-going : goal.round-requires-2-clause-going
round-requires-2-clause-going g c =
    looser 1 2 (g.C.Clerk.told c.round.new.clerk) (omega arith)
    (c.in_ok-first.ensures.going 0 (omega arith)
    (imported_goes c.world_is_demo.ensures c.args.nodes c.requires.few.0 c.requires.few.1
    (g.C.Clerk.told c.args.clerk.now) (g.C.Clerk.told c.import_all.new.clerk)
    c.in_ok-import_all.ensures c.requires.log.room))

pub round-requires-3-clause-going : goal.round-requires-3-clause-going
round-requires-3-clause-going g c =
    c.in_ok-second.ensures.going 1 (omega arith)
    (c.in_ok-first.ensures.going 0 (omega arith)
    (imported_goes c.world_is_demo.ensures c.args.nodes c.requires.few.0 c.requires.few.1
    (g.C.Clerk.told c.args.clerk.now) (g.C.Clerk.told c.import_all.new.clerk)
    c.in_ok-import_all.ensures c.requires.log.room))

pub returns : goal.returns
returns g c =
    let first : Outside = record {
      clerk = g.C.Clerk.told c.round.new.clerk;
      spawner = g.S.Spawner.shown c.round.new.spawner;
    } in
    let second : Outside = record {
      clerk = g.C.Clerk.told c.round-2.new.clerk;
      spawner = g.S.Spawner.shown c.round-2.new.spawner;
    } in
    let third : Outside = record {
      clerk = g.C.Clerk.told c.round-3.new.clerk;
      spawner = g.S.Spawner.shown c.round-3.new.spawner;
    } in (
      c.in_ok-first.ensures.round.round ∷ c.in_ok-second.ensures.round.round ∷ c.in_ok-third.ensures.round.round ∷ [],
      record {
        imported = g.C.Clerk.told c.import_all.new.clerk;
        imports = c.in_ok-import_all.ensures;
        runs = (
          first,
          c.in_ok-first.ensures.round.is,
          (second, c.in_ok-second.ensures.round.is, (third, c.in_ok-third.ensures.round.is, refl {a = third})),
        );
        legal = c.in_ok-third.ensures.round.is.bob.acts.legal;
      },
      three_refused c.in_ok-first.ensures.round.round c.in_ok-second.ensures.round.round
          c.in_ok-third.ensures.round.round c.in_ok-first.first c.in_ok-second.second c.in_ok-third.third
          c.in_ok-first.ensures.round.refused c.in_ok-second.ensures.round.refused c.in_ok-third.ensures.round.refused,
    )
