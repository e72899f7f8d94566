use Rattle.std.proofs.Common.{◌≡◌, ◌∙◌, List, ap, sym}
use Rattle.rb_causes.specs.declared.row.Row.{Row}
use Rattle.rb_log.specs.Executions.{Execution}
use Rattle.rb_log.specs.LogState.{log_state}
use Rattle.rb_looks.specs.Looking.{readable}
use Rattle.rb_tables.specs.Tables.{IsTabled}
use Rattle.rb_looks.proofs.Shows.{has_tiers, is_known, is_none, may_not_read_it, may_read_it, refusal_on, IsKnown}
use Rattle.rb_looks.proofs.looking.readable.Goals as goal
use Rattle.rb_looks.proofs.looking.readable.Goals.{After-as_str}

known_in : (c : After-as_str) (past : List Row) → IsTabled c.args.tables.now past
    → IsKnown past c.args.number c.in-Some.execution.now
known_in c past tabled =
    is_known c.args.tables.now past tabled c.args.number c.in-Some.execution.now
    (rw c.as_slice.ensures.value at c.in-Some.ensures)

-- the job that was asked for
job_in : (c : After-as_str) (past : List Row) → IsTabled c.args.tables.now past
    → (known : IsKnown past c.args.number c.in-Some.execution.now)
    → known.execution.accepted.job ≡ c.as_str.result.now
job_in c past tabled known =
    ap (λ (z : Execution). z.accepted.job) (sym known.entry.is.same) ∙ sym c.as_str.ensures

pub returns-in_ok-may_act_on-in-Some-clause-ok : goal.returns-in_ok-may_act_on-in-Some-clause-ok
returns-in_ok-may_act_on-in-Some-clause-ok c past tabled =
    let known = known_in (goal.at.returns-in_ok-may_act_on-in-Some-clause-ok c).After-as_str
    past tabled in record {
      execution = known.execution;
      is = known.entry.is;
      tiers = has_tiers c.args.tables.now past tabled c.look_laws.ensures.leaves
          c.look_laws.ensures.plans c.args.number known.execution known.among;
      may = may_read_it c.args.tables.now past tabled c.args.number c.args.caller.now
          known.execution known.among
          (c.in_ok-may_act_on-in-Some.ensures past known.execution tabled
          (job_in (goal.at.returns-in_ok-may_act_on-in-Some-clause-ok c).After-as_str
          past tabled known));
    }

pub returns-in_err-may_act_on-in-Some-clause-err :
    goal.returns-in_err-may_act_on-in-Some-clause-err
returns-in_err-may_act_on-in-Some-clause-err c past tabled =
    let before = (goal.at.returns-in_err-may_act_on-in-Some-clause-err c).After-as_str in
    let known = known_in before past tabled in
    refusal_on (readable (log_state past) c.args.caller.now c.args.number) c.from_residual.result
    c.in_err-may_act_on-in-Some.field-0.0 c.from_residual.ensures.1
    (may_not_read_it c.args.tables.now past tabled c.args.number c.args.caller.now
    known.execution c.in_err-may_act_on-in-Some.field-0.0 known.among
    (c.in_err-may_act_on-in-Some.ensures past known.execution tabled
    (job_in before past tabled known)))

pub returns-in-None-clause-err : goal.returns-in-None-clause-err
returns-in-None-clause-err c past tabled =
    is_none c.args.tables.now past tabled c.args.number c.args.caller.now
    (rw c.as_slice.ensures.value at c.in-None.ensures)
