use Rattle.std.proofs.Common.{◌≡◌, Err, subst, sym, arith}
use Rattle.rb_log.specs.LogState.{log_state}
use Rattle.rb_log.specs.Runs.{known}
use Rattle.rb_log.specs.declared.answer.Answer.TheVariants as answer
use Rattle.rb_runs.proofs.AtNumber.{known_at, none_at_zero, none_behind}
use Rattle.rb_runs.proofs.aborting.find.Goals as goal
use Rattle.rb_runs.proofs.aborting.find.Goals.{then-number-eq0-via-then-number-eq0, then-number-eq0-via-else-number-eq0+then-number-len}

pub returns-then-number-eq0 : goal.returns-then-number-eq0
returns-then-number-eq0 c past tabled =
    elim c.then-number-eq0.branch [
      | then-number-eq0-via-then-number-eq0 w ↦
          subst (λ n. known (log_state past) n ≡ Err answer.NoExecution)
          (sym w.if-number-eq0.true) (none_at_zero c.log_laws.ensures past)
      | then-number-eq0-via-else-number-eq0+then-number-len w ↦
          none_behind c.log_laws.ensures c.args.tables.now past tabled.says c.args.number
          (omega (arith, w.len.ensures, w.if-number-len.true))
    ]

pub returns : goal.returns
returns c past tabled =
    known_at c.log_laws.ensures c.args.tables.now past tabled.says c.args.number c.place_of.result
    c.place_of.ensures (omega (arith, c.len.ensures, c.if-number-len.false))
