use Rattle.std.proofs.Common.{◌+◌, drop}
use Rattle.rb_top.specs.Access.{script_policies}
use Rattle.rb_top.specs.Drill.{all_runs}
use Rattle.rb_top.specs.Played.{Played}
use Rattle.rb_top.proofs.running.run_all.Given as goal

-- the runs so far were run
abbrev pub invariant-loop-index : goal.invariant-loop-index
invariant-loop-index g l =
    let policies = script_policies l.script in
    Played (all_runs policies l.script.jobs 1 l.script.runs) (all_runs policies l.script.jobs (l.index + 1) (drop l.index l.script.runs))
    (g.S.Spawner.shown l.fn.spawner) (g.S.Spawner.shown l.spawner) (g.O.Sink.shown l.fn.out) (g.O.Sink.shown l.out)
