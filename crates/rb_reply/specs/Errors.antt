-- Replies, and those that tell an error.
use Rattle.std.specs.Prelude.{ℕ, true, List, ◌++◌, codes, Option, Some, None}
use Rattle.serde_json.specs.Data as json
use Rattle.serde_json.specs.Written.{compact_text}
use Rattle.rb_wire.specs.declared.heard.WireFault.{WireFault}
use Rattle.rb_wire.specs.declared.heard.WireFault.TheVariants.{BadHead, TransferEncoding, BadLength, TooLong, Cut}
use Rattle.rb_reply.specs.declared.error_code.ErrorCode.{ErrorCode}
use Rattle.rb_reply.specs.declared.error_code.ErrorCode.TheVariants as code
use Rattle.rb_reply.specs.declared.response.Response.{Response}

-- a status, and the JSON value of the body
pub record Reply : Type 0 where
  pub status : ℕ
  pub value : json.Data

abbrev pub reply : ℕ → json.Data → Reply
reply status value = record { status = status; value = value }

abbrev pub good : json.Data → Reply
good value = reply 200 value

-- as it is written: compact, with the keys in byte order
abbrev pub printed : Reply → Response
printed r = record { status = r.status; body = compact_text r.value }

-- ---- codes

abbrev pub code_status : ErrorCode → ℕ
code_status code.BadHead = 400
code_status code.BadLength = 400
code_status code.Cut = 400
code_status code.TooLong = 413
code_status code.TransferEncoding = 501
code_status code.Unauthorized = 401
code_status code.NoRoute = 404
code_status code.NoProject = 404
code_status code.NoJob = 404
code_status code.NoExecution = 404
code_status code.NoMethod = 405
code_status code.BadVersion = 400
code_status code.BadQuery = 400
code_status code.BadBody = 400
code_status code.BadArgs = 400
code_status code.BadFilter = 400
code_status code.BadName = 400
code_status code.BadOption = 400
code_status code.BadDocument = 400
code_status code.Denied = 403
code_status code.Disabled = 409
code_status code.AlreadyRunning = 409
code_status code.BadReference = 409
code_status code.NoNodeSelected = 409
code_status code.TooLarge = 409
code_status code.Ended = 409
code_status code.Aborting = 409
code_status code.IdTaken = 409
code_status code.NameTaken = 409
code_status code.TooMany = 409
code_status code.Full = 429
code_status code.Store = 503
code_status code.Memory = 507
code_status code.MemoryReply = 507

abbrev pub code_text : ErrorCode → List ℕ
code_text code.BadHead = codes "bad-head"
code_text code.BadLength = codes "bad-length"
code_text code.Cut = codes "cut"
code_text code.TooLong = codes "too-long"
code_text code.TransferEncoding = codes "transfer-encoding"
code_text code.Unauthorized = codes "unauthorized"
code_text code.NoRoute = codes "no-route"
code_text code.NoProject = codes "no-project"
code_text code.NoJob = codes "no-job"
code_text code.NoExecution = codes "no-execution"
code_text code.NoMethod = codes "no-method"
code_text code.BadVersion = codes "bad-version"
code_text code.BadQuery = codes "bad-query"
code_text code.BadBody = codes "bad-body"
code_text code.BadArgs = codes "bad-args"
code_text code.BadFilter = codes "bad-filter"
code_text code.BadName = codes "bad-name"
code_text code.BadOption = codes "bad-option"
code_text code.BadDocument = codes "bad-document"
code_text code.Denied = codes "denied"
code_text code.Disabled = codes "disabled"
code_text code.AlreadyRunning = codes "already-running"
code_text code.BadReference = codes "bad-reference"
code_text code.NoNodeSelected = codes "no-node-selected"
code_text code.TooLarge = codes "too-large"
code_text code.Ended = codes "ended"
code_text code.Aborting = codes "aborting"
code_text code.IdTaken = codes "id-taken"
code_text code.NameTaken = codes "name-taken"
code_text code.TooMany = codes "too-many"
code_text code.Full = codes "full"
code_text code.Store = codes "store"
code_text code.Memory = codes "memory"
code_text code.MemoryReply = codes "memory-reply"

-- ---- bodies

abbrev pub number_data : ℕ → json.Data
number_data n = json.number (json.unsigned n)

-- the members behind the clause, with the clause where there is one
abbrev pub with_clause : Option (List ℕ) → json.Members → json.Members
with_clause None members = members
with_clause (Some clause) members = json.member (codes "clause") (json.string clause) members

abbrev pub error_data : List ℕ → List ℕ → Option (List ℕ) → json.Data
error_data code message clause =
    json.object (json.member (codes "apiversion") (number_data 34)
    (with_clause clause
    (json.member (codes "error") (json.boolean true)
    (json.member (codes "errorCode") (json.string code)
    (json.member (codes "message") (json.string message) json.no_members)))))

-- an error with its status; a denial alone has a clause
abbrev pub error_reply : ErrorCode → List ℕ → Reply
error_reply code message = reply (code_status code) (error_data (code_text code) message None)

abbrev pub denial_reply : List ℕ → List ℕ → Reply
denial_reply message clause =
    reply (code_status code.Denied) (error_data (code_text code.Denied) message (Some clause))

-- ---- without an answer of the desk

-- what could not be read as a request
abbrev pub wire_reply : WireFault → Reply
wire_reply BadHead = error_reply code.BadHead (codes "request head not read")
wire_reply TransferEncoding =
    error_reply code.TransferEncoding (codes "transfer encoding not read")
wire_reply BadLength = error_reply code.BadLength (codes "content length not read")
wire_reply TooLong = error_reply code.TooLong (codes "body too long")
wire_reply Cut = error_reply code.Cut (codes "body cut")

-- no execution has this number
abbrev pub no_execution : List ℕ → Reply
no_execution number = error_reply code.NoExecution (codes "no execution " ++ number)

abbrev pub full_reply : Reply
full_reply = error_reply code.Full (codes "desk is full")

-- the three whose bodies are constant bytes
abbrev pub store_reply : Reply
store_reply = error_reply code.Store (codes "store failed")

abbrev pub memory_reply : Reply
memory_reply = error_reply code.Memory (codes "out of memory")

abbrev pub lost_reply : Reply
lost_reply = error_reply code.MemoryReply (codes "out of memory for the reply")
