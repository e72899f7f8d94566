use Rattle.std.proofs.Common.{◌∙◌, Option, refl, sym}
use Rattle.rb_causes.specs.Callers.{Callers}
use Rattle.rb_log.specs.Told.{Told}
use Rattle.rb_wire.specs.Hearing.{Pending}
use Rattle.rb_wire.specs.declared.heard.Heard.TheVariants as heard
use Rattle.rb_api.specs.declared.ended.Ended.TheVariants as ended
use Rattle.rb_door.specs.Serving.{DoorSight}
use Rattle.rb_door.proofs.Exchanging.{
  asked_served,
  closed_ends,
  fault_served,
  more_is_early,
  more_stays,
  silent_served,
  wanting_served,
}
use Rattle.rb_door.proofs.Goings.{goes_on_refl}
use Rattle.rb_door.proofs.serving.serve_next.Goals as goal

abbrev sight : Told → Option Callers → Pending → DoorSight
sight clerk callers pending =
    record { clerk = clerk; line = record { callers = callers; pending = pending } }

pub returns-in-Asked-clause-served : goal.returns-in-Asked-clause-served
returns-in-Asked-clause-served g c =
    asked_served (g.T.Clock.may_be c.args.clock.now) c.args.tokens.now
    (sight (g.C.Clerk.told c.args.clerk.now) (g.L.Line.callers c.args.line.now) c.args.buffer.now)
    (sight (g.C.Clerk.told c.answer_request.new.clerk)
    (g.L.Line.callers c.answer_request.new.line) c.read_request.new.buffer)
    (g.L.Line.callers c.read_request.new.line) c.in-Asked.request c.answer_request.result
    c.in-Asked.ensures.next c.answer_request.ensures.met

pub returns-in-Asked-clause-more : goal.returns-in-Asked-clause-more
returns-in-Asked-clause-more g c = λ more.
    more_is_early c.args.buffer.now c.read_request.new.buffer _ _ c.in-Asked.request
    c.in-Asked.ensures.next
    (more_stays c.in-Asked.request.close c.answer_request.ensures.met.given.trouble
    (sym more ∙ c.answer_request.ensures.met.given.ends))

pub returns-in-End-clause-served : goal.returns-in-End-clause-served
returns-in-End-clause-served g c =
    silent_served (g.T.Clock.may_be c.args.clock.now) c.args.tokens.now
    (sight (g.C.Clerk.told c.args.clerk.now) (g.L.Line.callers c.args.line.now) c.args.buffer.now)
    (sight (g.C.Clerk.told c.args.clerk.now) (g.L.Line.callers c.read_request.new.line)
    c.read_request.new.buffer) heard.End ended.Done c.in-End.ensures.next refl (refl, refl) refl

pub returns-in-LineFault-clause-served : goal.returns-in-LineFault-clause-served
returns-in-LineFault-clause-served g c =
    silent_served (g.T.Clock.may_be c.args.clock.now) c.args.tokens.now
    (sight (g.C.Clerk.told c.args.clerk.now) (g.L.Line.callers c.args.line.now) c.args.buffer.now)
    (sight (g.C.Clerk.told c.args.clerk.now) (g.L.Line.callers c.read_request.new.line)
    c.read_request.new.buffer) heard.LineFault ended.LineFault c.in-LineFault.ensures.next refl
    (refl, refl) refl

pub returns-in-Broken-clause-served : goal.returns-in-Broken-clause-served
returns-in-Broken-clause-served g c =
    fault_served (g.T.Clock.may_be c.args.clock.now) c.args.tokens.now
    (sight (g.C.Clerk.told c.args.clerk.now) (g.L.Line.callers c.args.line.now) c.args.buffer.now)
    (sight (g.C.Clerk.told c.args.clerk.now) (g.L.Line.callers c.give_fault.new.line)
    c.read_request.new.buffer) (g.L.Line.callers c.read_request.new.line) c.in-Broken.fault
    c.give_fault.result c.in-Broken.ensures.next refl c.give_fault.ensures.given

pub returns-in-Broken-clause-more : goal.returns-in-Broken-clause-more
returns-in-Broken-clause-more g c = λ more.
    absurd (closed_ends c.give_fault.ensures.given.trouble
    (sym more ∙ c.give_fault.ensures.given.ends))

pub returns-in-NoMemory-clause-served : goal.returns-in-NoMemory-clause-served
returns-in-NoMemory-clause-served g c =
    wanting_served (g.T.Clock.may_be c.args.clock.now) c.args.tokens.now
    (sight (g.C.Clerk.told c.args.clerk.now) (g.L.Line.callers c.args.line.now) c.args.buffer.now)
    (sight (g.C.Clerk.told c.args.clerk.now) (g.L.Line.callers c.give_wanting.new.line)
    c.read_request.new.buffer) (g.L.Line.callers c.read_request.new.line)
    c.give_wanting.result c.in-NoMemory.ensures.next refl c.give_wanting.ensures.given

pub returns-in-NoMemory-clause-more : goal.returns-in-NoMemory-clause-more
returns-in-NoMemory-clause-more g c = λ more.
    absurd (closed_ends c.give_wanting.ensures.given.trouble
    (sym more ∙ c.give_wanting.ensures.given.ends))

pub returns-in-End-clause-goes : goal.returns-in-End-clause-goes
returns-in-End-clause-goes g c = goes_on_refl (g.C.Clerk.told c.args.clerk.now)

pub returns-in-LineFault-clause-goes : goal.returns-in-LineFault-clause-goes
returns-in-LineFault-clause-goes g c = goes_on_refl (g.C.Clerk.told c.args.clerk.now)

pub returns-in-Broken-clause-goes : goal.returns-in-Broken-clause-goes
returns-in-Broken-clause-goes g c = goes_on_refl (g.C.Clerk.told c.args.clerk.now)

pub returns-in-NoMemory-clause-goes : goal.returns-in-NoMemory-clause-goes
returns-in-NoMemory-clause-goes g c = goes_on_refl (g.C.Clerk.told c.args.clerk.now)
