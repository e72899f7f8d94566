use Rattle.std.proofs.Common.{◌≡◌, ◌-◌, ◌*◌, ℕ, List, length}
use Rattle.rb_top.specs.Drill.{executed}
use Rattle.rb_top.specs.Played.{Played}
use Rattle.rb_top.proofs.starting.play_starts.Given as goal

-- so many starts were made, and the rest is left
abbrev pub invariant-loop-turn : goal.invariant-loop-turn
invariant-loop-turn g l =
    let runs = g.S.Spawner.shown in
    let shown = g.O.Sink.shown in
    let leaves = length l.nodes * length l.job.steps in
    record {
      plan : l.flow.plan ≡ l.fn.flow.plan;
      played : (user : List ℕ) → Played (executed leaves user l.nodes l.job l.fn.flow.marks) (executed (leaves - l._turn) user l.nodes l.job l.flow.marks)
          (runs l.fn.spawner) (runs l.spawner) (shown l.fn.out) (shown l.out);
    }
