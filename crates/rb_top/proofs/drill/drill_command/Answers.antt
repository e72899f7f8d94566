use Rattle.std.proofs.Common.{Some, ap, sym, ◌∙◌, subst}
use Rattle.rb_top.specs.Outcome.{AnswersTo}
use Rattle.rb_top.proofs.drill.drill_command.Goals as goal

pub returns-in-Some-Drill-clause-drill : goal.returns-in-Some-Drill-clause-drill
returns-in-Some-Drill-clause-drill g c =
    subst (λ asked. AnswersTo (g.F.Shelf.files c.args.shelf.now) asked (g.F.Shelf.faults c.args.shelf.now) (g.F.Shelf.faults c.drill_file.new.shelf) c.drill_file.result
    (g.S.Spawner.shown c.args.spawner.now) (g.S.Spawner.shown c.drill_file.new.spawner) (g.O.Sink.shown c.args.out.now) (g.O.Sink.shown c.drill_file.new.out))
    (sym (c.in-Some-Drill.is ∙ ap Some c.in-Some-Drill.field-0-is)) (rw c.as_str.ensures at c.drill_file.ensures.drill)
