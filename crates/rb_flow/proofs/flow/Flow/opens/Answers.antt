use Rattle.std.proofs.Common.{ap, ◌∙◌}
use Rattle.rb_marks.specs.Units.{outline}
use Rattle.rb_marks.specs.First.{opens}
use Rattle.rb_flow.proofs.Startable.{kept_is_ready}
use Rattle.rb_flow.proofs.Unopened.{opens_is}
use Rattle.rb_flow.proofs.flow.Flow.opens.Goals as goal

pub opens-requires : goal.opens-requires
opens-requires c = record {
  ready = kept_is_ready (outline c.self.inside.plan) c.self.invariant.0.sound
      c.self.inside.marks.items c.self.invariant.0.legal c.self.inside.kept c.self.invariant.1;
  sound = c.self.invariant.0.sound;
}

pub returns : goal.returns
returns c =
    c.opens.ensures
    ∙ opens_is (outline c.self.inside.plan) c.self.inside.marks.items c.self.inside.kept
    c.args.leaf c.self.invariant.1
    ∙ ap (λ v. opens (outline v.plan) v.marks c.args.leaf) c.self.view_is
