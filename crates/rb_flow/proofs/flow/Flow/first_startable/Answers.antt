use Rattle.std.proofs.Common.{ap, ◌∙◌}
use Rattle.rb_marks.specs.Units.{outline}
use Rattle.rb_marks.specs.First.{first_startable}
use Rattle.rb_flow.proofs.Startable.{first_leaf_is, kept_is_ready}
use Rattle.rb_flow.proofs.flow.Flow.first_startable.Goals as goal

pub first_leaf-requires : goal.first_leaf-requires
first_leaf-requires c =
    kept_is_ready (outline c.self.inside.plan) c.self.invariant.0.sound c.self.inside.marks.items
    c.self.invariant.0.legal c.self.inside.kept c.self.invariant.1

pub returns : goal.returns
returns c =
    c.first_leaf.ensures
    ∙ first_leaf_is (outline c.self.inside.plan) c.self.inside.marks.items c.self.inside.kept
    c.self.invariant.1
    ∙ ap (λ v. first_startable (outline v.plan) v.marks) c.self.view_is
