use Rattle.std.proofs.Common.{◌∙◌, ap}
use Rattle.rb_causes.specs.Callers.{after_leaving}
use Rattle.rb_causes.proofs.Serving.{left_is}
use Rattle.rb_causes.proofs.mem_callers.MemCallers.leave.Goals as goal

pub returns-then-self : goal.returns-then-self
returns-then-self c =
    let inside = c.self.inside in
    rw (c.of.ensures, c.replace-taken.ensures.value) (left_is inside.all.items inside.past inside.read inside.taken.items inside.failed (c.self.invariant.1 c.if-self.true).0)
    ∙ ap after_leaving (rw (c.if-self.true) at c.self.view_is)
