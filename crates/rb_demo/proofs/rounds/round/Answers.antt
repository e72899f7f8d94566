use Rattle.std.proofs.Common.{◌+◌, sym, subst, arith}
use Rattle.rb_demo.specs.Asking.{PlaysRound}
use Rattle.rb_demo.specs.Going.{IsDemoDesk}
use Rattle.rb_demo.proofs.Played.{plays_round}
use Rattle.rb_demo.proofs.RunGoing.{ann_goes, ann_has_room, bob_goes, bob_has_room, pump_goes_on}
use Rattle.rb_demo.proofs.WorkGoing.{has_all}
use Rattle.rb_demo.proofs.rounds.round.Goals as goal

pub run-requires-clause-room : goal.run-requires-clause-room
run-requires-clause-room g c =
    ann_has_room c.leaves_are_few.ensures (g.C.Clerk.told c.args.clerk.now) c.args.job.now
    c.requires.going c.requires.job

pub run-requires-2-clause-room : goal.run-requires-2-clause-room
run-requires-2-clause-room g c =
    let told = g.C.Clerk.told in
    let all = has_all told c.requires.alone in
    let asked : IsDemoDesk 3 (told c.run.new.clerk) =
    ann_goes c.ask_is_kept.ensures c.room_is_kept.ensures c.leaves_are_few.ensures 2 (told c.args.clerk.now)
    (told c.run.new.clerk) c.args.job.now c.in_ok-ann.ensures.0 (omega arith) (all c.args.clerk.now)
    (all c.run.new.clerk) c.requires.job c.in_ok-ann.ensures.1 c.requires.going in
    let worked : IsDemoDesk 3 (told c.work_if.new.clerk) =
    pump_goes_on c.room_is_kept.ensures 3 c.in_ok-ann.ann _ _ c.in_ok-work_if.ensures
    (all c.run.new.clerk) (all c.work_if.new.clerk) asked in
    bob_has_room 3 (told c.work_if.new.clerk) c.args.job.now worked c.requires.job

pub returns-clause-round : goal.returns-clause-round
returns-clause-round g c =
    subst (λ n. PlaysRound c.args.job.now
    (record {
      clerk = g.C.Clerk.told c.args.clerk.now;
      spawner = g.S.Spawner.shown c.args.spawner.now;
    })
    (record {
      clerk = g.C.Clerk.told c.run-2.new.clerk;
      spawner = g.S.Spawner.shown c.work_if.new.spawner;
    }) n) (sym c.refusals.ensures)
    (plays_round c.args.job.now (g.C.Clerk.told c.args.clerk.now) (g.C.Clerk.told c.run.new.clerk)
    (g.C.Clerk.told c.work_if.new.clerk) (g.C.Clerk.told c.run-2.new.clerk)
    (g.S.Spawner.shown c.args.spawner.now) (g.S.Spawner.shown c.work_if.new.spawner)
    c.in_ok-ann.ann c.in_ok-bob.bob c.in_ok-ann.ensures c.in_ok-work_if.ensures
    c.in_ok-bob.ensures c.requires.ready)

pub returns-clause-going : goal.returns-clause-going
returns-clause-going g c most low goes =
    let told = g.C.Clerk.told in
    let all = has_all told c.requires.alone in
    let asked =
    ann_goes c.ask_is_kept.ensures c.room_is_kept.ensures c.leaves_are_few.ensures most (told c.args.clerk.now)
    (told c.run.new.clerk) c.args.job.now c.in_ok-ann.ensures.0 low (all c.args.clerk.now)
    (all c.run.new.clerk) c.requires.job c.in_ok-ann.ensures.1 goes in
    let worked =
    pump_goes_on c.room_is_kept.ensures (most + 1) c.in_ok-ann.ann _ _ c.in_ok-work_if.ensures
    (all c.run.new.clerk) (all c.work_if.new.clerk) asked in
    bob_goes (most + 1) (told c.work_if.new.clerk) (told c.run-2.new.clerk) c.args.job.now
    c.in_ok-bob.ensures.0 (all c.work_if.new.clerk) (all c.run-2.new.clerk) c.requires.job
    c.in_ok-bob.ensures.1 worked
