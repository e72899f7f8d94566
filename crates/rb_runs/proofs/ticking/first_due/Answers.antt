use Rattle.std.proofs.Common.{◌≡◌, ◌+◌, ◌-◌, ◌<◌, ℤ, length, drop, to_z, of_z, w64, arith}
use Rattle.rb_runs.specs.Ticking.{due_among}
use Rattle.rb_runs.proofs.DueJobs.{among_back}
use Rattle.rb_runs.proofs.ticking.first_due.Goals as goal

pub loop-project-preserved : goal.loop-project-preserved
loop-project-preserved c =
    let ps = c.args.tables.now.world.projects in
    let now : ℤ = to_z w64 (of_z w64 c.args.now) in
    let project = c.loop-project.project in
    let low : project - 1 < length ps = omega arith in
    let back : project ≡ (project - 1) + 1 = omega arith in
    record {
      within = omega arith;
      is = among_back now ps (project - 1) project low back c.first_in-first.result
          (c.first_in-first.ensures (due_among now (drop project ps)) c.loop-project.invariant.is);
    }
