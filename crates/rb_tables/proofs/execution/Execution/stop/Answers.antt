use Rattle.std.proofs.Common.{ap}
use Rattle.rb_marks.specs.Units.{outline}
use Rattle.rb_marks.specs.declared.mark.Mark.TheVariants.{Abort}
use Rattle.rb_tables.proofs.Going.{marked_going}
use Rattle.rb_tables.proofs.execution.Execution.stop.Goals as goal

pub returns-in-Going : goal.returns-in-Going
returns-in-Going c l is =
    marked_going c.args.self.now c.in-Going.going c.abort.new.self l Abort is
    c.in-Going.is (ap (λ f. outline f.plan) c.abort.ensures) (ap (λ f. f.marks) c.abort.ensures)
