use Rattle.std.proofs.Common.{◌<◌, false, length, take, drop, ap, sym, ◌∙◌, subst, arith}
use Rattle.rb_marks.specs.Results.{steps_result}
use Rattle.rb_marks.specs.View.{branches_of}
use Rattle.rb_marks.specs.Units.{outline, step_at}
use Rattle.rb_flow.proofs.Startable.{kept_is_ready}
use Rattle.rb_flow.proofs.Table.{row_says}
use Rattle.rb_flow.proofs.flow.Flow.result.Goals as goal

pub result-requires : goal.result-requires
result-requires c =
    let kept = c.self.invariant.1 in
    let node = subst (λ v. c.args.node < length (outline v.plan).tiers) (sym c.self.view_is)
    c.requires.node in
    record {
      ready = kept_is_ready (outline c.self.inside.plan) c.self.invariant.0.sound
          c.self.inside.marks.items c.self.invariant.0.legal c.self.inside.kept kept;
      node = omega (arith, node, kept.nodes);
    }

pub returns : goal.returns
returns c =
    let p = outline c.self.inside.plan in
    let node = subst (λ v. c.args.node < length (outline v.plan).tiers) (sym c.self.view_is)
    c.requires.node in
    c.result.ensures
    ∙ ap (λ f. steps_result f p.keepgoing false (branches_of (take 1 (drop c.args.step p.steps))))
    (row_says p c.self.inside.marks.items c.self.inside.kept.leaves c.args.node
    c.self.invariant.1.leaves node)
    ∙ ap (λ v. step_at (outline v.plan) v.marks c.args.node c.args.step) c.self.view_is
