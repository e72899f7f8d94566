use Rattle.std.proofs.Common.{ap}
use Rattle.rb_marks.specs.Units.{outline}
use Rattle.rb_marks.specs.declared.mark.Mark.TheVariants.{Begin}
use Rattle.rb_tables.proofs.Going.{marked_going}
use Rattle.rb_tables.proofs.execution.Execution.begin.Goals as goal

pub returns-in-Going : goal.returns-in-Going
returns-in-Going c l is =
    marked_going c.args.self.now c.in-Going.going c.begin.new.self l
    (Begin c.args.leaf) is c.in-Going.is (ap (λ f. outline f.plan) c.begin.ensures.state)
    (ap (λ f. f.marks) c.begin.ensures.state)
