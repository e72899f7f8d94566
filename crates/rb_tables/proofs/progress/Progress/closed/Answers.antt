use Rattle.std.proofs.Common.{◌∙◌, ap, length, subst, sym}
use Rattle.rb_tables.specs.Progress.{IsClosing}
use Rattle.rb_tables.specs.declared.progress.Progress.TheVariants.{Going}
use Rattle.rb_tables.proofs.Ended.{ended_of}
use Rattle.rb_tables.proofs.progress.Progress.closed.Goals as goal

pub returns-in-Going-clause-is : goal.returns-in-Going-clause-is
returns-in-Going-clause-is c l given =
    let g = c.in-Going.field-0 in
    let closing : IsClosing (Going g) l c.args.nodes =
    subst (λ p. IsClosing p l c.args.nodes) c.in-Going.is given in
    let of = closing.is.flow in
    ended_of g.flow l c.args.nodes c.results_of.result of closing.ended
    (closing.nodes_are ∙ sym (ap (λ p. length p.tiers) of.plan)) c.results_of.ensures.status
    c.results_of.ensures.steps c.results_of.ensures.results
