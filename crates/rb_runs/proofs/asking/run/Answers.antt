use Rattle.std.proofs.Common.{◌∙◌, ℤ, Err, sym, subst, ap, to_z, of_z, w64, rules, SFits}
use Rattle.std.proofs.Math.Facts.{to_z-of_z}
use Rattle.rb_plan.specs.Acceptance.{acceptance}
use Rattle.rb_plan.specs.Sound.{IsSoundWorld}
use Rattle.rb_plan.specs.Verdict.{Verdicts}
use Rattle.rb_log.specs.LogState.{moment_by}
use Rattle.rb_log.specs.declared.answer.Answer.TheVariants as answers
use Rattle.rb_log.specs.declared.call.Call.TheVariants as calls
use Rattle.rb_tables.specs.Changes.{IsSettled}
use Rattle.rb_runs.specs.Refusing.{refusal_reason}
use Rattle.rb_runs.proofs.NamedRules.{can_begin, refusal_is_named}
use Rattle.rb_runs.proofs.Runs.{accepted_is_decided, refused_is_settled}
use Rattle.rb_runs.proofs.asking.run.Goals as goal

pub verdict-requires-clause-sound : goal.verdict-requires-clause-sound
verdict-requires-clause-sound c =
    subst IsSoundWorld (sym c.requires.1.says.world)
    (c.run_laws.ensures.sound c.requires.0 c.requires.1.legal)

pub begin_run-requires : goal.begin_run-requires
begin_run-requires c =
    let tabled = c.requires.1 in
    (can_begin c.run_laws.ensures c.args.tables.now.world c.args.caller c.args.ask
    c.draw_number.result (acceptance c.in-Ok.accepted)
    (subst IsSoundWorld (sym tabled.says.world)
    (c.run_laws.ensures.sound c.requires.0 tabled.legal)) c.in-Ok.ensures).may

pub refusal_reason-requires-clause-named : goal.refusal_reason-requires-clause-named
refusal_reason-requires-clause-named c =
    refusal_is_named c.run_laws.ensures.holds c.args.tables.now.world c.args.caller c.args.ask
    c.draw_number.result c.in-Err-Refused.refusal
    (subst (λ e. Verdicts c.args.tables.now.world c.args.caller c.args.ask c.draw_number.result
    (Err e)) c.in-Err-Refused.field-0-is c.in-Err-Refused.ensures)

pub returns-in-Ok : goal.returns-in-Ok
returns-in-Ok c past tabled clean =
    let fits : SFits w64 c.moment-at.result = search rules in
    let now : ℤ = to_z w64 (of_z w64 c.moment-at.result) in
    accepted_is_decided c.run_laws.ensures c.args.tables.now past
    c.args.caller c.args.ask c.args.at now c.draw_number.result
    (acceptance c.in-Ok.accepted) c.in_ok-begin_run-in-Ok.field-0 tabled clean
    (to_z-of_z fits ∙ c.moment-at.ensures
    ∙ ap (moment_by c.args.tables.now.last) (to_z-of_z c.ranges.at))
    c.draw_number.ensures c.in-Ok.ensures c.in_ok-begin_run-in-Ok.ensures

pub returns : goal.returns
returns c past tabled clean =
    let world = c.args.tables.now.world in
    let refusal = c.in-Err-Refused.refusal in
    subst (λ r. IsSettled past (calls.Run c.args.caller c.args.ask c.args.at)
    (answers.Refused refusal r))
    (sym (c.in_ok-reason-in-Err-Refused.ensures
    ∙ ap (λ job. refusal_reason world c.args.caller job refusal) c.as_str-job.ensures))
    (refused_is_settled c.args.tables.now past c.args.caller c.args.ask c.args.at
    c.draw_number.result refusal tabled c.draw_number.ensures
    (subst (λ e. Verdicts world c.args.caller c.args.ask c.draw_number.result (Err e))
    c.in-Err-Refused.field-0-is c.in-Err-Refused.ensures))
