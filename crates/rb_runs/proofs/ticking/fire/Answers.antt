use Rattle.std.proofs.Common.{◌∙◌, Err, ap, sym, subst, arith, w64}
use Rattle.std.proofs.lemmas.Int.{to_z-of_z}
use Rattle.std.proofs.lemmas.Result.{IfOk-weaker}
use Rattle.rb_plan.specs.Acceptance.{acceptance}
use Rattle.rb_plan.specs.Sound.{IsSoundWorld}
use Rattle.rb_plan.specs.Verdict.{Verdicts}
use Rattle.rb_log.specs.Asks.{scheduled_ask}
use Rattle.rb_runs.specs.Ticking.{IsTick}
use Rattle.rb_runs.proofs.NamedRules.{can_begin}
use Rattle.rb_runs.proofs.Ticks.{fired_on, skipped_on}
use Rattle.rb_runs.proofs.ticking.fire.Goals as goal

pub verdict-requires-clause-sound : goal.verdict-requires-clause-sound
verdict-requires-clause-sound c =
    subst IsSoundWorld (sym c.requires.1.says.world)
    (c.run_laws.ensures.sound c.requires.0 c.requires.1.legal)

pub begin_run-requires : goal.begin_run-requires
begin_run-requires c =
    let tabled = c.requires.1 in
    (can_begin c.run_laws.ensures c.args.tables.now.world c.args.held.now.importer
    c.in_ok-ask.ask c.draw_number.result (acceptance c.in-Ok.accepted)
    (subst IsSoundWorld (sym tabled.says.world)
    (c.run_laws.ensures.sound c.requires.0 tabled.legal)) c.in-Ok.ensures).may

pub returns-in-Ok : goal.returns-in-Ok
returns-in-Ok c past due tabled same instant clean =
    IfOk-weaker c.begin_run.result _ (IsTick past c.args.at due)
    (λ change begins. fired_on c.args.tables.now past due c.args.at c.draw_number.result change
    tabled c.draw_number.ensures c.run_laws.ensures c.args.instant (acceptance c.in-Ok.accepted)
    instant (omega (arith, c.ranges.instant.fits)) clean c.args.held.now same
    c.in_ok-importer-in-Ok.importer c.in_ok-importer-in-Ok.ensures c.in_ok-ask.ask
    (c.in_ok-ask.ensures ∙ ap scheduled_ask c.as_str.ensures) _
    (to_z-of_z w64 c.args.at c.ranges.at) c.in-Ok.ensures begins)
    c.begin_run.ensures

pub returns : goal.returns
returns c past due tabled same instant clean =
    IfOk-weaker c.skip.result _ (IsTick past c.args.at due)
    (λ change skipped. skipped_on c.args.tables.now past due c.args.at c.draw_number.result change
    tabled c.draw_number.ensures c.args.instant c.in-Err-Refused.refusal instant
    c.args.held.now same c.in_ok-ask.ask
    (c.in_ok-ask.ensures ∙ ap scheduled_ask c.as_str.ensures) _
    (to_z-of_z w64 c.args.at c.ranges.at)
    (subst (λ e. Verdicts c.args.tables.now.world c.args.held.now.importer c.in_ok-ask.ask
    c.draw_number.result (Err e)) c.in-Err-Refused.field-0-is c.in-Err-Refused.ensures) skipped)
    c.skip.ensures
