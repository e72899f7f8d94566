-- The reply to a request.
use Rattle.std.specs.Prelude.{◌≡◌, ℕ, ℤ, Bool, List, [], ◌++◌, codes, Option, Some, None, option_map, unwrap_or, Result, Ok, Err}
use Rattle.rb_causes.specs.Numbers.{decimal_of}
use Rattle.rb_causes.specs.declared.row.Row.{Row}
use Rattle.rb_log.specs.LogState.{log_state}
use Rattle.rb_log.specs.Readings.{Reading}
use Rattle.rb_log.specs.Turn.{MayRead, turn_of}
use Rattle.rb_log.specs.declared.answer.Answer.{Answer}
use Rattle.rb_log.specs.declared.answer.Answer.TheVariants as answer
use Rattle.rb_log.specs.declared.answer.ImportedJob.{ImportedJob}
use Rattle.rb_log.specs.declared.call.Call.{Call}
use Rattle.rb_wire.specs.Responses.{response_text}
use Rattle.rb_wire.specs.declared.heard.Request.{Request}
use Rattle.rb_api.specs.Calls.{ComesTo}
use Rattle.rb_reply.specs.Errors.{Reply, good, printed, error_reply, no_execution, full_reply, store_reply, memory_reply, lost_reply}
use Rattle.rb_api.specs.Faults.{fault_reply}
use Rattle.rb_api.specs.Refusals.{denial, document_reply, yaml_text, policy_text, job_text, refusal_reply}
use Rattle.rb_route.specs.Routes.{Asked, asked_of}
use Rattle.rb_api.specs.Views.{view_data, abort_data, imported_data, policy_data, shown_data}
use Rattle.rb_reply.specs.declared.error_code.ErrorCode.TheVariants as code
use Rattle.rb_api.specs.declared.request_fault.RequestFault.{RequestFault}
use Rattle.rb_route.specs.declared.route.Route.{Route}
use Rattle.rb_route.specs.declared.route.Route.TheVariants as route
use Rattle.rb_api.specs.declared.token.Token.{Token}

-- ---- the reply to an answer of the desk

-- a page that is shown after an import, by what was imported
abbrev pub imported_reply : Route → List ℕ → ℕ → List ImportedJob → Reply
imported_reply route.ImportPolicy name version jobs = good (policy_data name version)
imported_reply other project version jobs = good (imported_data jobs version)

-- the number that a path names
abbrev pub number_in : List ℕ → ℕ
number_in text = unwrap_or (decimal_of text) 0

-- the execution of this number, as the path writes it, is no more to be aborted
abbrev pub ended_text : List ℕ → List ℕ
ended_text number = codes "execution " ++ number ++ codes " has ended"

abbrev pub aborting_text : List ℕ → List ℕ
aborting_text number = codes "execution " ++ number ++ codes " is aborting"

-- What is replied to an answer on a route, on what its path speaks of. No call of a request has an
-- answer of the last case.
abbrev pub reply_on : Route → List ℕ → Answer → Reply
reply_on r subject answer.NoMemory = memory_reply
reply_on r subject answer.StoreFault = store_reply
reply_on r subject answer.Full = full_reply
reply_on r subject (answer.Imported version jobs) = imported_reply r subject version jobs
reply_on r subject answer.BadName = error_reply code.BadName (codes "name not read")
reply_on r subject (answer.BadYaml fault) = document_reply (yaml_text fault)
reply_on r subject (answer.BadPolicy fault) = document_reply (policy_text fault)
reply_on r subject (answer.BadJobs fault) = document_reply (job_text fault)
reply_on r subject answer.TooManyFiles = error_reply code.TooMany (codes "too many policy files")
reply_on r subject answer.NoProject =
    error_reply code.NoProject (codes "no project " ++ subject)
reply_on r subject (answer.IdTaken id) =
    error_reply code.IdTaken (codes "id " ++ id ++ codes " is taken")
reply_on r subject (answer.NameTaken id) =
    error_reply code.NameTaken (codes "name of " ++ id ++ codes " is taken")
reply_on r subject (answer.Denied reason) = denial reason
reply_on r subject (answer.Accepted view) = good (view_data view)
reply_on r subject (answer.Refused refusal reason) = refusal_reply subject refusal reason
reply_on r subject (answer.Aborted status) = good (abort_data (number_in subject) status)
reply_on r subject answer.NoExecution = no_execution subject
reply_on r subject answer.Ended = error_reply code.Ended (ended_text subject)
reply_on r subject answer.Aborting = error_reply code.Aborting (aborting_text subject)
reply_on r subject (answer.Shown what) = good (shown_data what)
reply_on r subject other = lost_reply

abbrev pub reply_by : Option Asked → Answer → Reply
reply_by None a = lost_reply
reply_by (Some asked) a = reply_on asked.route asked.subject a

-- the reply to what the desk answers to a request
abbrev pub reply_to : Request → Answer → Reply
reply_to request a = reply_by (asked_of request.path) a

-- what the path of a request speaks of
abbrev pub subject_of : Request → List ℕ
subject_of request =
    unwrap_or (option_map (λ asked. asked.subject) (asked_of request.path)) []

-- the reply to a request for which the desk is not asked
abbrev pub refused_reply : Request → RequestFault → Reply
refused_reply request fault = fault_reply (subject_of request) fault

-- a task would have to be run, and no request claims one
abbrev pub IsNoTask : Answer → Type 0
IsNoTask (answer.Task t) = ⊥
IsNoTask other = Unit {0}

-- ---- the reply on a log, whose rows come newest first

abbrev pub RepliesTo : List Row → ℕ → Request → Result Call RequestFault → Reply → Type 0
RepliesTo past room request (Err fault) r = r ≡ refused_reply request fault
RepliesTo past room request (Ok c) r =
    (reading : Reading) × MayRead (log_state past) c reading
    × (r ≡ reply_to request (turn_of reading past room c).answer)

-- This is the reply to a request on a log, in a desk of this room, at this moment.
pub record IsReply
    (past : List Row) (room : ℕ) (tokens : List Token) (request : Request) (at : ℤ) (r : Reply)
    : Type 0 where
  pub asked : Result Call RequestFault
  pub comes : ComesTo tokens request at asked
  pub replies : RepliesTo past room request asked r

-- ---- as bytes

-- the bytes of a reply on a connection that closes or stays
abbrev pub reply_bytes : Reply → Bool → List ℕ
reply_bytes r close = response_text r.status (printed r).body close
