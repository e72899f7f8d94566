-- Each status is one that is served.
use Rattle.std.proofs.Common.{◌≡◌, true, ℕ, List, Option, Some, None, IsTrue, sym, subst, refl}
use Rattle.rb_log.specs.declared.answer.Answer.{Answer}
use Rattle.rb_log.specs.declared.answer.Answer.TheVariants as answer
use Rattle.rb_log.specs.declared.answer.ImportedJob.{ImportedJob}
use Rattle.rb_log.specs.declared.answer.Reason.{Reason}
use Rattle.rb_plan.specs.declared.refusal.Refusal.{Refusal}
use Rattle.rb_plan.specs.declared.refusal.Refusal.TheVariants as refusal
use Rattle.rb_wire.specs.Responses.{is_status}
use Rattle.rb_wire.specs.declared.heard.WireFault.{WireFault}
use Rattle.rb_wire.specs.declared.heard.WireFault.TheVariants as wire
use Rattle.rb_reply.specs.Errors.{wire_reply}
use Rattle.rb_api.specs.Faults.{fault_reply}
use Rattle.rb_api.specs.Laws.{StatusesAreServed, answer_status, refusal_status}
use Rattle.rb_api.specs.Refusals.{refusal_reply}
use Rattle.rb_api.specs.Replies.{imported_reply, reply_on, reply_by, subject_of}
use Rattle.rb_route.specs.Routes.{Asked, asked_of}
use Rattle.rb_api.specs.declared.request_fault.RequestFault.{RequestFault}
use Rattle.rb_route.specs.declared.route.Route.{Route}
use Rattle.rb_route.specs.declared.route.Route.TheVariants as route
use Rattle.rb_api.specs.declared.request_fault.RequestFault.TheVariants as fault

refused : (r : Refusal) → is_status (refusal_status r) ≡ true
refused refusal.NoJob = refl
refused (refusal.JobDenied decision) = refl
refused (refusal.BadReference path cause) = refl
refused (refusal.ReferenceDenied path decision) = refl
refused refusal.Disabled = refl
refused (refusal.AlreadyRunning execution) = refl
refused (refusal.BadOption path f) = refl
refused refusal.NoNodeSelected = refl
refused (refusal.NoNodeAllowed node decision) = refl
refused (refusal.TooLarge leaves) = refl

answered : (a : Answer) → is_status (answer_status a) ≡ true
answered answer.NoMemory = refl
answered answer.StoreFault = refl
answered answer.Full = refl
answered (answer.Imported version jobs) = refl
answered answer.BadZone = refl
answered answer.BadName = refl
answered (answer.BadYaml f) = refl
answered (answer.BadNodes f) = refl
answered (answer.BadPolicy f) = refl
answered (answer.BadJobs f) = refl
answered answer.TooManyFiles = refl
answered answer.NoProject = refl
answered (answer.IdTaken id) = refl
answered (answer.NameTaken id) = refl
answered (answer.Denied reason) = refl
answered (answer.Accepted view) = refl
answered (answer.Refused r reason) = refused r
answered (answer.Aborted status) = refl
answered answer.NoExecution = refl
answered answer.Ended = refl
answered answer.Aborting = refl
answered (answer.Fired execution) = refl
answered answer.Quiet = refl
answered (answer.Task t) = refl
answered (answer.Withdrawn execution node decision) = refl
answered answer.Closed = refl
answered answer.Idle = refl
answered (answer.Reported kept) = refl
answered (answer.DoorClosed kept) = refl
answered (answer.Shown what) = refl
answered answer.Saved = refl

-- the status of a reply is that of its answer
exact_refusal : (job : List ℕ) (r : Refusal) (reason : Option Reason)
    → (refusal_reply job r reason).status ≡ refusal_status r
exact_refusal job refusal.NoJob reason = refl
exact_refusal job (refusal.JobDenied decision) None = refl
exact_refusal job (refusal.JobDenied decision) (Some reason) = refl
exact_refusal job (refusal.BadReference path cause) reason = refl
exact_refusal job (refusal.ReferenceDenied path decision) None = refl
exact_refusal job (refusal.ReferenceDenied path decision) (Some reason) = refl
exact_refusal job refusal.Disabled reason = refl
exact_refusal job (refusal.AlreadyRunning execution) reason = refl
exact_refusal job (refusal.BadOption path f) reason = refl
exact_refusal job refusal.NoNodeSelected reason = refl
exact_refusal job (refusal.NoNodeAllowed node decision) None = refl
exact_refusal job (refusal.NoNodeAllowed node decision) (Some reason) = refl
exact_refusal job (refusal.TooLarge leaves) reason = refl

imported_status : (r : Route) (subject : List ℕ) (version : ℕ) (jobs : List ImportedJob)
    → (imported_reply r subject version jobs).status ≡ 200
imported_status route.ImportPolicy subject version jobs = refl
imported_status route.Run subject version jobs = refl
imported_status route.Execution subject version jobs = refl
imported_status route.State subject version jobs = refl
imported_status route.Abort subject version jobs = refl
imported_status route.Jobs subject version jobs = refl
imported_status route.ImportJobs subject version jobs = refl
imported_status route.Resources subject version jobs = refl
imported_status route.Executions subject version jobs = refl

exact : (r : Route) (subject : List ℕ) (a : Answer)
    → (reply_on r subject a).status ≡ answer_status a
exact r subject answer.NoMemory = refl
exact r subject answer.StoreFault = refl
exact r subject answer.Full = refl
exact r subject (answer.Imported version jobs) = imported_status r subject version jobs
exact r subject answer.BadZone = refl
exact r subject answer.BadName = refl
exact r subject (answer.BadYaml f) = refl
exact r subject (answer.BadNodes f) = refl
exact r subject (answer.BadPolicy f) = refl
exact r subject (answer.BadJobs f) = refl
exact r subject answer.TooManyFiles = refl
exact r subject answer.NoProject = refl
exact r subject (answer.IdTaken id) = refl
exact r subject (answer.NameTaken id) = refl
exact r subject (answer.Denied reason) = refl
exact r subject (answer.Accepted view) = refl
exact r subject (answer.Refused refusal reason) = exact_refusal subject refusal reason
exact r subject (answer.Aborted status) = refl
exact r subject answer.NoExecution = refl
exact r subject answer.Ended = refl
exact r subject answer.Aborting = refl
exact r subject (answer.Fired execution) = refl
exact r subject answer.Quiet = refl
exact r subject (answer.Task t) = refl
exact r subject (answer.Withdrawn execution node decision) = refl
exact r subject answer.Closed = refl
exact r subject answer.Idle = refl
exact r subject (answer.Reported kept) = refl
exact r subject (answer.DoorClosed kept) = refl
exact r subject (answer.Shown what) = refl
exact r subject answer.Saved = refl

answers_by : (o : Option Asked) (a : Answer) → IsTrue (is_status (reply_by o a).status)
answers_by None a = refl
answers_by (Some asked) a =
    subst (λ n. IsTrue (is_status n)) (sym (exact asked.route asked.subject a))
    (answered a)

faults : (subject : List ℕ) (f : RequestFault)
    → IsTrue (is_status (fault_reply subject f).status)
faults subject fault.Unauthorized = refl
faults subject fault.NoRoute = refl
faults subject fault.NoMethod = refl
faults subject fault.BadVersion = refl
faults subject (fault.BadQuery query) = refl
faults subject fault.BadBody = refl
faults subject fault.BadArgs = refl
faults subject fault.BadFilter = refl
faults subject fault.NoExecution = refl

wires : (f : WireFault) → IsTrue (is_status (wire_reply f).status)
wires wire.BadHead = refl
wires wire.TransferEncoding = refl
wires wire.BadLength = refl
wires wire.TooLong = refl
wires wire.Cut = refl

pub statuses_are_served : StatusesAreServed
statuses_are_served = record {
  answers = λ request a. answers_by (asked_of request.path) a;
  faults = λ request f. faults (subject_of request) f;
  wire = wires;
}
