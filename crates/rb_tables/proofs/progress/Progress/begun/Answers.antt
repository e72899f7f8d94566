use Rattle.std.proofs.Common.{◌≡◌, ◌∙◌, ap, arith, false, sym, true}
use Rattle.rb_log.specs.Executions.{is_running_status}
use Rattle.rb_tables.proofs.Ended.{ended_of, flow_status}
use Rattle.rb_tables.proofs.progress.Progress.begun.Goals as goal

pub returns-then-is_running-clause-over : goal.returns-then-is_running-clause-over
returns-then-is_running-clause-over c l of ended =
    absurd (let wrong : true ≡ false =
    sym c.if-is_running.true ∙ c.is_running.ensures
    ∙ ap is_running_status (c.status.ensures ∙ flow_status c.args.flow l of) ∙ ended in
    grind (arith, wrong))

pub returns-else-is_running-clause-is : goal.returns-else-is_running-clause-is
returns-else-is_running-clause-is c l of nodes commands =
    ended_of c.args.flow l c.len-count.result c.results_of.result of
    (sym (ap is_running_status (c.status.ensures ∙ flow_status c.args.flow l of))
    ∙ sym c.is_running.ensures ∙ c.if-is_running.false)
    (c.len-count.ensures ∙ c.requires.tiers) c.results_of.ensures.status c.results_of.ensures.steps
    c.results_of.ensures.results
