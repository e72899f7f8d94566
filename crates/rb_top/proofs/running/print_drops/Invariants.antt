use Rattle.std.proofs.Common.{drop}
use Rattle.rb_causes.specs.Spawners.{ShownRuns}
use Rattle.rb_top.specs.Drill.{drops}
use Rattle.rb_top.specs.Played.{Played}
use Rattle.rb_top.proofs.running.print_drops.Given as goal

-- the lines of the decisions so far were printed
abbrev pub invariant-loop-decided : goal.invariant-loop-decided
invariant-loop-decided g l =
    (spawner : ShownRuns) → Played (drops l.number l.decisions) (drops l.number (drop l.decided-index l.decisions)) spawner spawner (g.O.Sink.shown l.fn.out) (g.O.Sink.shown l.out)
