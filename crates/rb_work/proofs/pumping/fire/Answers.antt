use Rattle.std.proofs.Common.{◌∙◌, List, subst, sym, to_z, of_z, w64}
use Rattle.std.proofs.Math.Facts.{to_z-of_z}
use Rattle.rb_log.specs.Records.{Record}
use Rattle.rb_work.specs.Ticks.{HasTicked}
use Rattle.rb_work.proofs.Ticked.{fired_more, has_ticked, tick_nearer}
use Rattle.rb_work.proofs.pumping.fire.Goals as goal

pub loop-smaller : goal.loop-smaller
loop-smaller g c =
    let t = c.tick.ensures.ticked in
    tick_nearer (to_z w64 (of_z w64 c.args.at)) (g.C.Clerk.told c.loop.clerk)
    (g.C.Clerk.told c.tick.new.clerk) t.0 t.1 (sym t.2 ∙ c.loop-test.true)

pub loop-preserved : goal.loop-preserved
loop-preserved g c =
    let t = c.tick.ensures.ticked in (
      fired_more (to_z w64 (of_z w64 c.args.at)) (g.C.Clerk.told c.args.clerk.now)
          (g.C.Clerk.told c.loop.clerk) (g.C.Clerk.told c.tick.new.clerk) t.0 c.loop.invariant.0
          t.1 (sym t.2 ∙ c.loop-test.true),
      c.tick.ensures.still ∙ c.loop.invariant.1,
    )

pub returns-clause-ticked : goal.returns-clause-ticked
returns-clause-ticked g c =
    let t = c.tick.ensures.ticked in
    subst (λ at. (ticks : List Record)
    × HasTicked at (g.C.Clerk.told c.args.clerk.now) (g.C.Clerk.told c.tick.new.clerk) ticks)
    (to_z-of_z c.ranges.at)
    (has_ticked (to_z w64 (of_z w64 c.args.at)) (g.C.Clerk.told c.args.clerk.now)
    (g.C.Clerk.told c.loop.clerk) (g.C.Clerk.told c.tick.new.clerk) t.0 c.loop.invariant.0 t.1
    (sym t.2 ∙ c.loop-test.false))
