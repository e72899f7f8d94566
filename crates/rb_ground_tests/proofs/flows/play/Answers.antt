use Rattle.std.proofs.Common.{sym, ◌∙◌}
use Rattle.rb_marks.specs.Units.{outline}
use Rattle.rb_flow.proofs.Units.{first_may_withdraw}
use Rattle.rb_ground_tests.proofs.flows.play.Goals as goal

pub withdraw-requires : goal.withdraw-requires
withdraw-requires c =
    first_may_withdraw (outline c.ready.new.self.plan) c.ready.new.self.marks c.in-Some.leaf
    (sym c.first_startable.ensures ∙ c.in-Some.is) (sym c.opens.ensures ∙ c.if-opens.true)
