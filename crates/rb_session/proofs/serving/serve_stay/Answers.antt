use Rattle.std.proofs.Common.{◌≡◌, ◌∙◌, arith, refl, rules, subst, sym}
use Rattle.rb_api.specs.declared.ended.Ended.TheVariants.{More}
use Rattle.rb_wire.specs.Hearing.{nothing_pending}
use Rattle.rb_session.specs.Visits.{scene}
use Rattle.rb_session.proofs.Visiting.{StaySoFar, stay_begins, stay_goes_on, stay_served}
use Rattle.rb_causes.proofs.Written.{rose_since}
use Rattle.rb_door.proofs.Goings.{goes_on_refl, goes_on_then}
use Rattle.rb_session.proofs.Pumping.{worker_stays}
use Rattle.rb_session.proofs.serving.serve_stay.Goals as goal

pub loop-ended-init : goal.loop-ended-init
loop-ended-init g c =
    let sc = scene (g.C.Clerk.told c.args.clerk.now) (g.S.Spawner.shown c.args.spawner.now)
    (g.L.Line.callers c.args.line.now) in
    let may_be = g.T.Clock.may_be c.args.clock.now in record {
      more = λ e. subst (λ b. StaySoFar may_be c.args.tokens.now c.args.limit (sc nothing_pending) (sc b))
          (sym c.next_turn.ensures)
          (stay_begins may_be c.args.tokens.now c.args.limit (sc nothing_pending));
      last = λ n. absurd (n refl);
      goes = goes_on_refl (g.C.Clerk.told c.args.clerk.now);
      later = omega arith;
      cause = λ e. absurd (grind (arith, e));
      spawner = omega arith;
    }

pub handle_next-ended-requires-clause-worker : goal.handle_next-ended-requires-clause-worker
handle_next-ended-requires-clause-worker g c =
    worker_stays (g.C.Clerk.told c.args.clerk.now) (g.C.Clerk.told c.loop-ended.clerk)
    c.loop-ended.invariant.goes 0 c.requires.worker

pub loop-ended-preserved : goal.loop-ended-preserved
loop-ended-preserved g c =
    let before = c.loop-ended.invariant in
    let now = c.handle_next-ended.ensures in
    let is_more : c.loop-ended.ended ≡ More = search rules in
    let may_be = g.T.Clock.may_be c.args.clock.now in
    let old = scene (g.C.Clerk.told c.args.clerk.now) (g.S.Spawner.shown c.args.spawner.now)
    (g.L.Line.callers c.args.line.now) nothing_pending in
    let mid = scene (g.C.Clerk.told c.loop-ended.clerk) (g.S.Spawner.shown c.loop-ended.spawner)
    (g.L.Line.callers c.loop-ended.line) c.loop-ended.buffer in
    let end = scene (g.C.Clerk.told c.handle_next-ended.new.clerk)
    (g.S.Spawner.shown c.handle_next-ended.new.spawner)
    (g.L.Line.callers c.handle_next-ended.new.line) c.handle_next-ended.new.buffer in
    record {
      more = λ e. stay_goes_on may_be c.args.tokens.now c.args.limit old mid end now.handled.0
          (before.more is_more) now.handled.1 (sym now.handled.2 ∙ e);
      last = λ n. stay_served may_be c.args.tokens.now c.args.limit old mid end now.handled.0
          c.handle_next-ended.result refl (before.more is_more) now.handled.1
          (sym now.handled.2) n;
      goes = goes_on_then _ _ _ before.goes now.goes;
      later = omega (arith, before.later, now.later);
      cause = λ e. rose_since _ _ _ before.later (now.cause e);
      spawner = omega (arith, before.spawner, now.spawner);
    }
