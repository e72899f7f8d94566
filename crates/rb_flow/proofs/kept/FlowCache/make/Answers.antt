use Rattle.std.proofs.Common.{◌*◌, [], replicate, length, ap, ◌∙◌, sym, refl}
use Rattle.std.specs.List.{list_all}
use Rattle.rb_marks.specs.Units.{outline, units_of}
use Rattle.rb_flow.specs.Tally.{is_idle}
use Rattle.rb_flow.proofs.Making.{all_idle, idle_states_are, idle_size, no_cursors}
use Rattle.rb_marks.specs.Results.{slot_result}
use Rattle.std.proofs.lemmas.List.{length-map}
use Rattle.rb_flow.specs.Cursors.{first_cursor}
use Rattle.rb_flow.specs.Kept.{idle_state}
use Rattle.rb_flow.proofs.kept.FlowCache.make.Goals as goal

pub make-requires-clause-size : goal.make-requires-clause-size
make-requires-clause-size c =
    idle_size (outline c.args.plan.now) c.in_ok-states.states.items c.in_ok-states.ensures
    ∙ ap (λ g. g * length (outline c.args.plan.now).tiers) (sym c.group_count.ensures)
    ∙ ap (λ n. c.group_count.result * n) (sym c.len-2.ensures)

pub make-requires-clause-idle : goal.make-requires-clause-idle
make-requires-clause-idle c =
    ap (list_all is_idle) c.in_ok-states.ensures ∙ all_idle (units_of (outline c.args.plan.now))

pub returns : goal.returns
returns c =
    let p = outline c.args.plan.now in
    record {
      tally = c.in_ok-tally.ensures.is;
      states = c.in_ok-tally.ensures.states ∙ c.in_ok-states.ensures ∙ idle_states_are p c.requires;
      nodes = c.in_ok-tally.ensures.nodes ∙ c.len-2.ensures;
      groups = c.in_ok-tally.ensures.groups ∙ c.group_count.ensures;
      leaves = c.in_ok-leaves.ensures;
      cursors = no_cursors p (slot_result []) c.in_ok-cursors.cursors.items
          (c.in_ok-cursors.ensures
          ∙ ap (λ n. replicate n first_cursor) (c.len.ensures ∙ c.in_ok-states.states.ok.0
          ∙ ap length c.in_ok-states.ensures ∙ length-map (units_of p) idle_state));
      stopped = refl;
      lost = refl;
    }
