use Rattle.std.proofs.Common.{ap, ◌∙◌}
use Rattle.rb_marks.specs.Units.{outline}
use Rattle.rb_marks.specs.First.{status_of}
use Rattle.rb_flow.proofs.Startable.{kept_is_ready}
use Rattle.rb_flow.proofs.Statuses.{status_is}
use Rattle.rb_flow.proofs.flow.Flow.status.Goals as goal

pub status-requires : goal.status-requires
status-requires c =
    kept_is_ready (outline c.self.inside.plan) c.self.invariant.0.sound c.self.inside.marks.items
    c.self.invariant.0.legal c.self.inside.kept c.self.invariant.1

pub returns : goal.returns
returns c =
    c.status.ensures
    ∙ status_is (outline c.self.inside.plan) c.self.inside.marks.items c.self.invariant.0.legal
    c.self.inside.kept c.self.invariant.1
    ∙ ap (λ v. status_of (outline v.plan) v.marks) c.self.view_is
