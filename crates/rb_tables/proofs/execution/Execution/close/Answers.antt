use Rattle.std.proofs.Common.{◌≡◌, ◌∙◌, ap, arith, false, length}
use Rattle.std.proofs.lemmas.List.{length-map}
use Rattle.rb_log.specs.Executions.{Execution, is_running}
use Rattle.rb_tables.specs.Progress.{HasTiers, IsClosing}
use Rattle.rb_tables.specs.Tables.{IsOf}
use Rattle.rb_tables.proofs.execution.Execution.close.Goals as goal
use Rattle.rb_tables.proofs.execution.Execution.close.Goals.{After-len-nodes}

closing : (c : After-len-nodes) (l : Execution) → IsOf c.args.self.now l → HasTiers l
    → is_running l ≡ false → IsClosing c.args.self.now.progress l c.len-nodes.result
closing c l is tiers ended = record {
  is = is.progress;
  nodes_are = c.len-nodes.ensures ∙ ap length is.names
      ∙ length-map l.accepted.nodes (λ n. n.name) ∙ tiers.nodes;
  ended = ended;
}

pub overflow_cast-nodes : goal.overflow_cast-nodes
overflow_cast-nodes c =
    let tiers = c.requires.2 in
    record {
      fits = omega (
        arith,
        tiers.few,
        (closing c c.requires.0 c.requires.1 tiers c.requires.3).nodes_are,
      );
    }

pub close-requires : goal.close-requires
close-requires c = (
  c.requires.0,
  closing (goal.at.close-requires c).After-len-nodes c.requires.0 c.requires.1 c.requires.2
      c.requires.3,
)

pub returns : goal.returns
returns c l is tiers ended = record {
  is = record {
    same = is.same;
    names = is.names;
    progress = c.close.ensures.is l
        (closing (goal.at.returns c).After-len-nodes l is tiers ended);
  };
  over = λ _. c.close.ensures.over;
}
