use Rattle.std.proofs.Common.{◌≡◌, ◌∙◌, ap, arith, false, subst, sym, true}
use Rattle.rb_marks.specs.Units.{outline}
use Rattle.rb_marks.specs.declared.mark.Mark.TheVariants.{End}
use Rattle.rb_log.specs.Executions.{Execution}
use Rattle.rb_log.proofs.RoomLaws.{open_runs}
use Rattle.rb_tables.specs.Progress.{HasEnded, IsProgress}
use Rattle.rb_tables.proofs.Going.{marked_going}
use Rattle.rb_tables.proofs.execution.Execution.finish.Goals as goal

pub returns-in-Going : goal.returns-in-Going
returns-in-Going c l is =
    marked_going c.args.self.now c.in-Going.going c.finish.new.self l
    (End c.args.leaf c.args.ending) is c.in-Going.is
    (ap (λ f. outline f.plan) c.finish.ensures) (ap (λ f. f.marks) c.finish.ensures)

-- a leaf of it is open, and so it runs
pub returns-in-Over : goal.returns-in-Over
returns-in-Over c l is =
    let e : Execution = c.requires.0 in
    let over : HasEnded c.in-Over.field-0 e =
    subst (λ p. IsProgress p e) c.in-Over.is c.requires.1.progress in
    absurd (let wrong : false ≡ true =
    sym over.ended ∙ open_runs e.accepted.plan e.marks c.args.leaf c.requires.2 c.requires.3 in
    grind (arith, wrong))
