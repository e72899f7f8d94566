-- What holds of requests and their replies, whatever the log is.
use Rattle.std.specs.Prelude.{◌≡◌, ◌≢◌, ◌⊎◌, ℕ, ℤ, Bool, true, false, List, take, reverse, codes, slice_get, Option, Some, None, Ok, Err, IsTrue, bytes_eq}
use Rattle.std.specs.List.{list_all}
use Rattle.serde_json.specs.Data as json
use Rattle.serde_json.specs.Find.{get}
use Rattle.serde_json.specs.Written.{has_float}
use Rattle.rb_acl.specs.declared.policy.Caller.{Caller}
use Rattle.rb_causes.specs.Moments.{IsMoment}
use Rattle.rb_causes.specs.declared.row.Row.{Row}
use Rattle.rb_log.specs.Legal.{Rights, MayAsk}
use Rattle.rb_log.specs.Readings.{Reading}
use Rattle.rb_log.specs.Records.{Record, IsTrueRecord}
use Rattle.rb_log.specs.Rows.{is_clean_caller}
use Rattle.rb_log.specs.Turn.{turn_of}
use Rattle.rb_log.specs.declared.answer.Answer.{Answer}
use Rattle.rb_log.specs.declared.answer.Answer.TheVariants as answer
use Rattle.rb_log.specs.declared.answer.Reason.{Reason}
use Rattle.rb_log.specs.declared.call.Call.{Call}
use Rattle.rb_log.specs.declared.call.Call.TheVariants as call
use Rattle.rb_plan.specs.declared.refusal.Refusal.{Refusal}
use Rattle.rb_plan.specs.declared.refusal.Refusal.TheVariants as refusal
use Rattle.rb_wire.specs.Responses.{is_status}
use Rattle.rb_wire.specs.declared.heard.Request.{Request}
use Rattle.rb_wire.specs.declared.heard.WireFault.{WireFault}
use Rattle.rb_api.specs.Calls.{ComesTo, call_of}
use Rattle.rb_reply.specs.Errors.{Reply, wire_reply}
use Rattle.rb_api.specs.Replies.{IsReply, reply_on, reply_to, refused_reply}
use Rattle.rb_route.specs.Routes.{get as get_method}
use Rattle.rb_api.specs.Tokens.{caller_by}
use Rattle.rb_api.specs.declared.request_fault.RequestFault.{RequestFault}
use Rattle.rb_api.specs.declared.request_fault.RequestFault.TheVariants as fault
use Rattle.rb_route.specs.declared.route.Route.{Route}
use Rattle.rb_api.specs.declared.token.Token.{Token}

-- ---- who asks

-- A listed token is the one that is given, whole, and its caller is this one.
pub record IsListed (tokens : List Token) (given : Option (List ℕ)) (caller : Caller) : Type 0 where
  pub place : ℕ
  pub token : Token
  pub listed : slice_get tokens place ≡ Some token
  pub whole : given ≡ Some token.token
  pub caller_is : caller ≡ token.caller

-- whoever asks has given a listed token
abbrev pub CallersAreListed : Type 0
CallersAreListed =
    (tokens : List Token) (given : Option (List ℕ)) (caller : Caller)
    → caller_by tokens given ≡ Some caller → IsListed tokens given caller

-- Without one a request makes no call, whatever else it says, and it has the same reply on every
-- log.
pub record StrangersAskNothing : Type 0 where
  pub call : (tokens : List Token) (request : Request) (at : ℤ)
      → caller_by tokens request.token ≡ None
      → call_of tokens request at ≡ Err fault.Unauthorized
  pub reply : (past : List Row) (room : ℕ) (tokens : List Token) (request : Request) (at : ℤ)
      (r : Reply) → caller_by tokens request.token ≡ None → IsReply past room tokens request at r
      → r ≡ refused_reply request fault.Unauthorized

-- a request for which the desk is not asked has one reply, which rests on no row
abbrev pub RefusalsRestOnNothing : Type 0
RefusalsRestOnNothing =
    (past : List Row) (room : ℕ) (tokens : List Token) (request : Request) (at : ℤ) (r : Reply)
    (f : RequestFault) → call_of tokens request at ≡ Err f → IsReply past room tokens request at r
    → r ≡ refused_reply request f

-- ---- what is asked

-- the call is this caller's, at this moment where it has one, and an import asks for permission
abbrev pub IsAskedBy : Caller → ℤ → Call → Type 0
IsAskedBy caller at (call.ImportPolicy who checked name body when) =
    (who ≡ caller) × (checked ≡ true) × (when ≡ at)
IsAskedBy caller at (call.ImportJobs who checked project body when) =
    (who ≡ caller) × (checked ≡ true) × (when ≡ at)
IsAskedBy caller at (call.Run who ask when) = (who ≡ caller) × (when ≡ at)
IsAskedBy caller at (call.Abort who execution when) = (who ≡ caller) × (when ≡ at)
IsAskedBy caller at (call.Look who look) = who ≡ caller
IsAskedBy caller at other = ⊥

-- each call is that of the caller of the token
abbrev pub CallsAreTheCallers : Type 0
CallsAreTheCallers =
    (tokens : List Token) (request : Request) (at : ℤ) (c : Call)
    → call_of tokens request at ≡ Ok c
    → (caller : Caller) × (caller_by tokens request.token ≡ Some caller) × IsAskedBy caller at c

-- no user and no group has a line feed or a comma
abbrev pub are_clean : List Token → Bool
are_clean tokens = list_all (λ token. is_clean_caller token.caller) tokens

-- each call may be asked of any clerk
abbrev pub CallsMayBeAsked : Type 0
CallsMayBeAsked =
    (rights : Rights) (tokens : List Token) (request : Request) (at : ℤ) (c : Call)
    → IsTrue (are_clean tokens) → IsMoment at → call_of tokens request at ≡ Ok c → MayAsk rights c

-- a look, which changes nothing
abbrev pub IsLook : Call → Type 0
IsLook (call.Look caller look) = Unit {0}
IsLook other = ⊥

abbrev pub IsAbort : Call → Type 0
IsAbort (call.Abort caller execution at) = Unit {0}
IsAbort other = ⊥

-- What is got by GET adds no row, but for an abort, which may be asked for so.
pub record GetsAddNothing : Type 0 where
  pub looks : (tokens : List Token) (request : Request) (at : ℤ) (c : Call)
      → bytes_eq request.method get_method ≡ true → call_of tokens request at ≡ Ok c
      → IsLook c ⊎ IsAbort c
  pub adds : (reading : Reading) (past : List Row) (room : ℕ) (c : Call) → IsLook c
      → (turn_of reading past room c).row ≡ None

-- ---- what is answered

-- what may be answered to the call of a request, on any log
abbrev pub is_told : Answer → Bool
is_told answer.NoMemory = false
is_told answer.StoreFault = false
is_told answer.Full = true
is_told (answer.Imported version jobs) = true
is_told answer.BadZone = false
is_told answer.BadName = true
is_told (answer.BadYaml f) = true
is_told (answer.BadNodes f) = false
is_told (answer.BadPolicy f) = true
is_told (answer.BadJobs f) = true
is_told answer.TooManyFiles = true
is_told answer.NoProject = true
is_told (answer.IdTaken id) = true
is_told (answer.NameTaken id) = true
is_told (answer.Denied reason) = true
is_told (answer.Accepted view) = true
is_told (answer.Refused r reason) = true
is_told (answer.Aborted status) = true
is_told answer.NoExecution = true
is_told answer.Ended = true
is_told answer.Aborting = true
is_told (answer.Fired execution) = false
is_told answer.Quiet = false
is_told (answer.Task t) = false
is_told (answer.Withdrawn execution node decision) = false
is_told answer.Closed = false
is_told answer.Idle = false
is_told (answer.Reported kept) = false
is_told (answer.DoorClosed kept) = false
is_told (answer.Shown what) = true
is_told answer.Saved = false

-- the rules answer nothing else
abbrev pub AnswersAreTold : Type 0
AnswersAreTold =
    (reading : Reading) (past : List Row) (room : ℕ) (caller : Caller) (at : ℤ) (c : Call)
    → IsAskedBy caller at c → is_told (turn_of reading past room c).answer ≡ true

-- ---- statuses

-- the status of a refused run
abbrev pub refusal_status : Refusal → ℕ
refusal_status refusal.NoJob = 404
refusal_status (refusal.JobDenied decision) = 403
refusal_status (refusal.BadReference path cause) = 409
refusal_status (refusal.ReferenceDenied path decision) = 403
refusal_status refusal.Disabled = 409
refusal_status (refusal.AlreadyRunning execution) = 409
refusal_status (refusal.BadOption path f) = 400
refusal_status refusal.NoNodeSelected = 409
refusal_status (refusal.NoNodeAllowed node decision) = 403
refusal_status (refusal.TooLarge leaves) = 409

-- the status of an answer
abbrev pub answer_status : Answer → ℕ
answer_status answer.Full = 429
answer_status (answer.Imported version jobs) = 200
answer_status answer.BadName = 400
answer_status (answer.BadYaml f) = 400
answer_status (answer.BadPolicy f) = 400
answer_status (answer.BadJobs f) = 400
answer_status answer.TooManyFiles = 409
answer_status answer.NoProject = 404
answer_status (answer.IdTaken id) = 409
answer_status (answer.NameTaken id) = 409
answer_status (answer.Denied reason) = 403
answer_status (answer.Accepted view) = 200
answer_status (answer.Refused r reason) = refusal_status r
answer_status (answer.Aborted status) = 200
answer_status answer.NoExecution = 404
answer_status answer.Ended = 409
answer_status answer.Aborting = 409
answer_status (answer.Shown what) = 200
answer_status answer.StoreFault = 503
answer_status other = 507

-- the status of a request for which the desk is not asked
abbrev pub fault_status : RequestFault → ℕ
fault_status fault.Unauthorized = 401
fault_status fault.NoRoute = 404
fault_status fault.NoMethod = 405
fault_status fault.BadVersion = 400
fault_status (fault.BadQuery query) = 400
fault_status fault.BadBody = 400
fault_status fault.BadArgs = 400
fault_status fault.BadFilter = 400
fault_status fault.NoExecution = 404

-- A status tells its cause, whatever the route is.
pub record StatusesAreExact : Type 0 where
  pub answers : (route : Route) (subject : List ℕ) (a : Answer)
      → (reply_on route subject a).status ≡ answer_status a
  pub faults : (request : Request) (f : RequestFault)
      → (refused_reply request f).status ≡ fault_status f

-- Each status is one of those that are served.
pub record StatusesAreServed : Type 0 where
  pub answers : (request : Request) (a : Answer)
      → IsTrue (is_status (reply_to request a).status)
  pub faults : (request : Request) (f : RequestFault)
      → IsTrue (is_status (refused_reply request f).status)
  pub wire : (f : WireFault) → IsTrue (is_status (wire_reply f).status)

-- ---- bodies

-- the clause that a body tells
abbrev pub clause_told : Reply → Option json.Data
clause_told r = get (codes "clause") r.value

-- A denial carries the text of its clause, and no other error has one.
pub record DenialsCarryTheirClause : Type 0 where
  pub denied : (route : Route) (subject : List ℕ) (reason : Reason)
      → clause_told (reply_on route subject (answer.Denied reason))
      ≡ Some (json.string reason.clause)
  pub refused : (route : Route) (subject : List ℕ) (r : Refusal) (reason : Reason)
      → refusal_status r ≡ 403
      → clause_told (reply_on route subject (answer.Refused r (Some reason)))
      ≡ Some (json.string reason.clause)
  pub others : (route : Route) (subject : List ℕ) (a : Answer)
      → answer_status a ≢ 403 → answer_status a ≢ 200
      → clause_told (reply_on route subject a) ≡ None
  pub faults : (request : Request) (f : RequestFault)
      → clause_told (refused_reply request f) ≡ None

-- No body has a float, so that each has a printed text.
pub record BodiesHaveNoFloat : Type 0 where
  pub answers : (request : Request) (a : Answer) → has_float (reply_to request a).value ≡ false
  pub faults : (request : Request) (f : RequestFault)
      → has_float (refused_reply request f).value ≡ false
  pub wire : (f : WireFault) → has_float (wire_reply f).value ≡ false

-- ---- records

-- A record of the request's call that is true of a log, and that is answered by the rules, gives
-- the reply on the rows before it.
abbrev pub RecordsGiveReplies : Type 0
RecordsGiveReplies =
    (log : List Row) (room : ℕ) (tokens : List Token) (request : Request) (at : ℤ) (r : Record)
    → ComesTo tokens request at (Ok r.call) → IsTrueRecord log room r
    → r.answer ≢ answer.NoMemory → r.answer ≢ answer.StoreFault
    → IsReply (reverse (take r.before log)) room tokens request at (reply_to request r.answer)
