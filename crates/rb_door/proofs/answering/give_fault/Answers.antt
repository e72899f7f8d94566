use Rattle.std.proofs.Common.{IsTrue, subst, sym, true}
use Rattle.rb_reply.specs.Errors.{wire_reply}
use Rattle.rb_wire.specs.Responses.{is_status, response_text}
use Rattle.rb_door.specs.Answering.{IsGiven}
use Rattle.rb_door.proofs.answering.give_fault.Goals as goal

pub give-requires : goal.give-requires
give-requires g c =
    subst (λ s. IsTrue (is_status s)) (sym c.fault_status.ensures)
    (c.statuses_are_served.ensures.wire c.args.fault)

pub returns-clause-given : goal.returns-clause-given
returns-clause-given g c =
    subst (λ body. IsGiven (response_text (wire_reply c.args.fault).status body true) true
    (g.L.Line.callers c.args.line.now) (g.L.Line.callers c.give.new.line) c.give.result)
    c.fault_body.ensures
    (subst (λ status. IsGiven (response_text status c.fault_body.result.now true) true
    (g.L.Line.callers c.args.line.now) (g.L.Line.callers c.give.new.line) c.give.result)
    c.fault_status.ensures c.give.ensures.given)
