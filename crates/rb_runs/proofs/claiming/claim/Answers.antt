use Rattle.std.proofs.Common.{◌≡◌, ◌∙◌, FitsSigned, rules, to_z, of_z, w64, ap, sym, if◌then◌else◌}
use Rattle.std.proofs.lemmas.Int.{to_z-of_z}
use Rattle.rb_log.specs.Claims.{claim_among}
use Rattle.rb_log.specs.LogState.{log_state, moment, moment_by, running_executions}
use Rattle.rb_log.specs.Moves.{only}
use Rattle.rb_log.specs.declared.answer.Answer.TheVariants as answer
use Rattle.rb_runs.proofs.Aborts.{any_reading}
use Rattle.rb_runs.proofs.claiming.claim.Goals as goal

pub returns-then-is_closed : goal.returns-then-is_closed
returns-then-is_closed c past tabled =
    let s = log_state past in record {
      reading = any_reading;
      may_read = tt;
      says = ap (λ b. if b then only answer.Closed
          else claim_among s (moment s c.args.at) c.args.worker (running_executions s))
          (sym (c.if-is_closed.ensures past tabled));
    }

pub returns-in-None : goal.returns-in-None
returns-in-None c past tabled =
    let s = log_state past in record {
      reading = any_reading;
      may_read = tt;
      says = ap (λ b. if b then only answer.Closed
          else claim_among s (moment s c.args.at) c.args.worker (running_executions s))
          (sym (c.if-is_closed.ensures past tabled))
          ∙ c.in-None.ensures past tabled (moment s c.args.at) c.args.worker;
    }

pub taken-requires : goal.taken-requires
taken-requires c = (c.requires.0, c.requires.1, c.in-Some.ensures c.requires.0 c.requires.1)

pub returns-in_ok-taken-in-Some : goal.returns-in_ok-taken-in-Some
returns-in_ok-taken-in-Some c past tabled =
    let s = log_state past in
    let is = c.in_ok-taken-in-Some.ensures past tabled (c.in-Some.ensures past tabled) in
    let fits : FitsSigned w64 c.moment.result = search rules in
    let now : to_z w64 (of_z w64 c.moment.result) ≡ moment s c.args.at =
    to_z-of_z w64 c.moment.result fits
    ∙ c.moment.ensures
    ∙ ap (moment_by c.args.tables.now.last) (to_z-of_z w64 c.args.at c.ranges.at)
    ∙ ap (λ last. moment_by last c.args.at) tabled.says.last in (
      record {
        reading = any_reading;
        may_read = tt;
        says = ap (λ b. if b then only answer.Closed
            else claim_among s (moment s c.args.at) c.args.worker (running_executions s))
            (sym (c.if-is_closed.ensures past tabled))
            ∙ ap (λ t. claim_among s t c.args.worker (running_executions s)) (sym now)
            ∙ is.gives;
      },
      is.effect,
    )
