use Rattle.std.proofs.Common.{IsTrue, subst, sym}
use Rattle.rb_wire.specs.Responses.{is_status, response_text}
use Rattle.rb_door.specs.Answering.{IsGiven}
use Rattle.rb_reply.specs.declared.response.Response.{Response}
use Rattle.rb_door.proofs.Exchanging.{met_goes_on, reply_is_served, request_met}
use Rattle.rb_door.proofs.answering.answer_request.Goals as goal

pub give-requires : goal.give-requires
give-requires g c =
    let made = c.response_to-response.ensures in
    subst (λ (p : Response). IsTrue (is_status p.status)) (sym made.is_printed)
    (reply_is_served c.statuses_are_served.ensures (g.T.Clock.may_be c.args.clock.now)
    c.args.tokens.now c.args.request.now made.turn made.reply made.is_reply)

pub returns-clause-met : goal.returns-clause-met
returns-clause-met g c =
    request_met (g.T.Clock.may_be c.args.clock.now) c.args.tokens.now c.args.request.now
    (g.C.Clerk.told c.args.clerk.now) (g.C.Clerk.told c.response_to-response.new.clerk)
    (g.L.Line.callers c.args.line.now) (g.L.Line.callers c.give.new.line)
    c.response_to-response.result c.give.result c.response_to-response.ensures
    (subst (λ body. IsGiven (response_text c.response_to-response.result.status body
    c.args.request.now.close) c.args.request.now.close (g.L.Line.callers c.args.line.now)
    (g.L.Line.callers c.give.new.line) c.give.result) c.as_slice.ensures c.give.ensures.given)

pub returns-clause-goes : goal.returns-clause-goes
returns-clause-goes g c =
    met_goes_on c.calls_are_the_callers.ensures (g.T.Clock.may_be c.args.clock.now)
    c.args.tokens.now c.args.request.now
    (record {
      clerk = g.C.Clerk.told c.args.clerk.now;
      callers = g.L.Line.callers c.args.line.now;
    })
    (record {
      clerk = g.C.Clerk.told c.response_to-response.new.clerk;
      callers = g.L.Line.callers c.give.new.line;
    })
    c.give.result (returns-clause-met g c)
