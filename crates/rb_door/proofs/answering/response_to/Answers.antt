use Rattle.std.proofs.Common.{SFits, ℤ, Ok, of_z, subst, sym, to_z, w64}
use Rattle.std.proofs.Math.Facts.{to_z-of_z}
use Rattle.rb_causes.specs.Moments.{IsMoment}
use Rattle.rb_api.specs.Calls.{ComesTo}
use Rattle.rb_door.proofs.Exchanging.{refusal_told, reply_made, request_may, wanting_made}
use Rattle.rb_door.proofs.NoTask.{acts_no_task, asked_no_task}
use Rattle.rb_door.proofs.answering.response_to.Goals as goal

pub act-requires : goal.act-requires
act-requires g c =
    let fits : SFits w64 c.now-at.result = record { sfits = c.now-at.type_inv } in
    request_may c.calls_may_be_asked.ensures (g.C.Clerk.told c.args.clerk.now).rights
    c.args.tokens.now c.args.request.now (to_z w64 (of_z w64 c.now-at.result)) c.in-Ok-Ok.call
    c.requires (subst IsMoment (sym (to_z-of_z fits)) c.now-at.ensures.moment)
    (rw c.in-Ok-Ok.field-0-is at c.in-Ok-Ok.ensures)

pub reply_or_lost-requires : goal.reply_or_lost-requires
reply_or_lost-requires g c =
    let at : ℤ = to_z w64 (of_z w64 c.now-at.result) in
    let comes : ComesTo c.args.tokens.now c.args.request.now at (Ok c.in-Ok-Ok.call) =
    rw c.in-Ok-Ok.field-0-is at c.in-Ok-Ok.ensures in
    let caller = c.calls_are_the_callers.ensures c.args.tokens.now c.args.request.now at
    c.in-Ok-Ok.call comes.0 in
    acts_no_task (g.C.Clerk.told c.args.clerk.now) (g.C.Clerk.told c.act.new.self)
    c.in-Ok-Ok.call c.act.result c.act.ensures
    (asked_no_task c.answers_are_told.ensures caller.0 at c.in-Ok-Ok.call caller.2)

pub returns-in-Ok-Ok : goal.returns-in-Ok-Ok
returns-in-Ok-Ok g c =
    let at : ℤ = to_z w64 (of_z w64 c.now-at.result) in
    let fits : SFits w64 c.now-at.result = record { sfits = c.now-at.type_inv } in
    reply_made (g.T.Clock.may_be c.args.clock.now) c.args.tokens.now c.args.request.now
    (g.C.Clerk.told c.args.clerk.now) (g.C.Clerk.told c.act.new.self) c.reply_or_lost.result at
    c.in-Ok-Ok.call c.act.result c.reply_or_lost.ensures.0
    (subst (g.T.Clock.may_be c.args.clock.now) (sym (to_z-of_z fits)) c.now-at.ensures.may_be)
    (rw c.in-Ok-Ok.field-0-is at c.in-Ok-Ok.ensures) c.act.ensures c.reply_or_lost.ensures.1
    c.reply_or_lost.ensures.2

pub returns-in-Ok-Err : goal.returns-in-Ok-Err
returns-in-Ok-Err g c =
    let at : ℤ = to_z w64 (of_z w64 c.now-at.result) in
    let fits : SFits w64 c.now-at.result = record { sfits = c.now-at.type_inv } in
    refusal_told (g.T.Clock.may_be c.args.clock.now) c.args.tokens.now c.args.request.now
    (g.C.Clerk.told c.args.clerk.now) c.refusal.result at c.in-Ok-Err.fault
    (subst (g.T.Clock.may_be c.args.clock.now) (sym (to_z-of_z fits)) c.now-at.ensures.may_be)
    (rw c.in-Ok-Err.field-0-is at c.in-Ok-Err.ensures) c.refusal.ensures

pub returns-in-Err : goal.returns-in-Err
returns-in-Err g c =
    wanting_made (g.T.Clock.may_be c.args.clock.now) c.args.tokens.now c.args.request.now
    (g.C.Clerk.told c.args.clerk.now) c.memory_wanting.result c.memory_wanting.ensures
