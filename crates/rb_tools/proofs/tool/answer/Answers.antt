use Rattle.std.proofs.Common.{Some, ap, sym, ◌∙◌, subst, refl}
use Rattle.rb_tools.specs.Answers.{ToolAnswersTo}
use Rattle.rb_tools.proofs.tool.answer.Goals as goal

pub returns-in-Some-CheckNodes-clause-tool : goal.returns-in-Some-CheckNodes-clause-tool
returns-in-Some-CheckNodes-clause-tool g c =
    subst (λ asked. ToolAnswersTo (g.F.Shelf.files c.args.shelf.now) asked (g.F.Shelf.faults c.args.shelf.now) (g.F.Shelf.faults c.check_nodes.new.shelf) c.check_nodes.result
    (g.O.Sink.shown c.args.out.now) (g.O.Sink.shown c.check_nodes.new.out))
    (sym (c.in-Some-CheckNodes.is ∙ ap Some c.in-Some-CheckNodes.field-0-is)) (rw c.as_str.ensures at c.check_nodes.ensures.check)

pub returns-in-Some-CheckPolicy-clause-tool : goal.returns-in-Some-CheckPolicy-clause-tool
returns-in-Some-CheckPolicy-clause-tool g c =
    subst (λ asked. ToolAnswersTo (g.F.Shelf.files c.args.shelf.now) asked (g.F.Shelf.faults c.args.shelf.now) (g.F.Shelf.faults c.check_policy.new.shelf) c.check_policy.result
    (g.O.Sink.shown c.args.out.now) (g.O.Sink.shown c.check_policy.new.out))
    (sym (c.in-Some-CheckPolicy.is ∙ ap Some c.in-Some-CheckPolicy.field-0-is)) (rw c.as_str-in-Some-CheckPolicy.ensures at c.check_policy.ensures.check)

pub returns-in-Some-Explain-clause-tool : goal.returns-in-Some-Explain-clause-tool
returns-in-Some-Explain-clause-tool g c =
    subst (λ asked. ToolAnswersTo (g.F.Shelf.files c.args.shelf.now) asked (g.F.Shelf.faults c.args.shelf.now) (g.F.Shelf.faults c.explain.new.shelf) c.explain.result
    (g.O.Sink.shown c.args.out.now) (g.O.Sink.shown c.explain.new.out))
    (sym (c.in-Some-Explain.is ∙ ap Some c.in-Some-Explain.field-0-is)) (rw c.as_str-in-Some-Explain.ensures at c.explain.ensures.check)

pub returns-in-Some-CheckJobs-clause-tool : goal.returns-in-Some-CheckJobs-clause-tool
returns-in-Some-CheckJobs-clause-tool g c =
    subst (λ asked. ToolAnswersTo (g.F.Shelf.files c.args.shelf.now) asked (g.F.Shelf.faults c.args.shelf.now) (g.F.Shelf.faults c.check_jobs.new.shelf) c.check_jobs.result
    (g.O.Sink.shown c.args.out.now) (g.O.Sink.shown c.check_jobs.new.out))
    (sym (c.in-Some-CheckJobs.is ∙ ap Some c.in-Some-CheckJobs.field-0-is)) (rw c.as_str-in-Some-CheckJobs.ensures at c.check_jobs.ensures.check)

pub returns-in-Some-Demo-clause-tool : goal.returns-in-Some-Demo-clause-tool
returns-in-Some-Demo-clause-tool g c =
    subst (λ asked. ToolAnswersTo (g.F.Shelf.files c.args.shelf.now) asked (g.F.Shelf.faults c.args.shelf.now) (g.F.Shelf.faults c.args.shelf.now) c.print_demo.result
    (g.O.Sink.shown c.args.out.now) (g.O.Sink.shown c.print_demo.new.out))
    (sym (c.in-Some-Demo.is ∙ ap Some c.in-Some-Demo.field-0-is)) (refl, c.print_demo.ensures.demo)
