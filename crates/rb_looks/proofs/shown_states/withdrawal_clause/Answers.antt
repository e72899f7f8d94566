use Rattle.std.proofs.Common.{◌∙◌, Some, ap, option_map}
use Rattle.rb_tables.specs.declared.execution.WithdrawnNode.{WithdrawnNode}
use Rattle.rb_looks.proofs.States.{clause_is}
use Rattle.rb_looks.proofs.shown_states.withdrawal_clause.Goals as goal

pub returns-in-None : goal.returns-in-None
returns-in-None c l is =
    ap (option_map (λ (w : WithdrawnNode). w.clause))
    (rw c.as_slice.ensures.value at c.in-None.ensures)
    ∙ clause_is c.args.execution.now l c.args.place is

pub returns-in_ok-copy-in-Some : goal.returns-in_ok-copy-in-Some
returns-in_ok-copy-in-Some c l is =
    ap Some c.in_ok-copy-in-Some.ensures
    ∙ ap (option_map (λ (w : WithdrawnNode). w.clause))
    (rw c.as_slice.ensures.value at c.in-Some.ensures)
    ∙ clause_is c.args.execution.now l c.args.place is
