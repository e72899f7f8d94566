use Rattle.std.proofs.Common.{◌∙◌, ap, sym}
use Rattle.rb_log.specs.Executions.{Execution}
use Rattle.rb_tables.specs.declared.change.Outcome.TheVariants.{Accepted, Fired}
use Rattle.rb_runs.specs.Asking.{begun_outcome}
use Rattle.rb_runs.proofs.asking.begun.Goals as goal

pub returns-in_ok-view_of-in-None : goal.returns-in_ok-view_of-in-None
returns-in_ok-view_of-in-None c l is =
    ap Accepted (c.in_ok-view_of-in-None.ensures l is) ∙ ap (begun_outcome l) (sym c.in-None.is)

pub returns-in-Some : goal.returns-in-Some
returns-in-Some c l is =
    ap (λ (e : Execution). Fired e.number) is.same ∙ ap (begun_outcome l) (sym c.in-Some.is)
