use Rattle.std.proofs.Common.{◌≡◌, ◌∙◌, ap, length, map, refl, sym, arith, w64}
use Rattle.std.proofs.lemmas.Int.{to_z-of_z}
use Rattle.rb_marks.specs.Units.{outline}
use Rattle.rb_node.specs.declared.node.Node.{Node}
use Rattle.rb_plan.specs.Acceptance.{acceptance}
use Rattle.rb_log.specs.Executions.{Execution, dropped_view, started}
use Rattle.rb_tables.specs.Progress.{IsFlowOf}
use Rattle.rb_tables.specs.Tables.{withdrawn_of}
use Rattle.rb_runs.proofs.beginning.started.Goals as goal

pub returns : goal.returns
returns c =
    let world = c.args.world.now in
    let l : Execution =
    started world c.args.number c.args.at c.args.caller (acceptance c.args.accepted) in
    let of : IsFlowOf c.in_ok-flow.flow l = record {
      plan = ap (λ f. outline f.plan) c.in_ok-flow.ensures;
      marks = ap (λ f. f.marks) c.in_ok-flow.ensures;
    } in
    record {
      is = record {
        same = ap (λ z. record l {
          at = z;
          accepted = record l.accepted { job = c.of.result };
          dropped = c.in_ok-dropped.dropped;
          withdrawn = map withdrawn_of c.new.result.items;
        }) (to_z-of_z w64 c.args.at c.ranges.at)
            ∙ ap (λ job. record l {
              accepted = record l.accepted { job = job };
              dropped = c.in_ok-dropped.dropped;
              withdrawn = map withdrawn_of c.new.result.items;
            }) c.of.ensures
            ∙ ap (λ ws. record l { dropped = c.in_ok-dropped.dropped; withdrawn = map withdrawn_of ws })
            c.new.ensures.items
            ∙ ap (λ ds. record l { dropped = ds })
            (c.in_ok-dropped.ensures
            ∙ ap (map (dropped_view world.policies)) c.as_slice.ensures);
        names = c.in_ok-names.ensures ∙ ap (map (λ (n : Node). n.name)) c.as_slice-2.ensures;
        progress = c.in_ok-progress.ensures.is l of refl refl;
      };
      over = c.in_ok-progress.ensures.over l of;
    }

pub begun-requires : goal.begun-requires
begun-requires c =
    let tiers : length c.args.accepted.nodes ≡ length (outline c.in_ok-flow.flow.plan).tiers =
    c.requires.nodes ∙ sym (ap (λ f. length (outline f.plan).tiers) c.in_ok-flow.ensures) in
    record {
      tiers = tiers;
      few = omega (arith, c.requires.nodes, c.requires.sound.nodes);
    }
