-- What the definitions say of requests and replies as they are written.
use Rattle.std.proofs.Common.{refl}
use Rattle.std.specs.Prelude.{
  ◌≡◌,
  ℕ,
  pos,
  true,
  false,
  ⊤,
  List,
  [],
  ◌∷◌,
  length,
  codes,
  map,
  Option,
  Some,
  None,
  option_map,
  Result,
  Ok,
  Err,
}
use Rattle.std.specs.Fmt.{digits}
use Rattle.std.specs.Str.{chars, is_utf8}
use Rattle.std.specs.Str.Lossy.{utf8_lossy, utf8_valid_len}
use Rattle.form_urlencoded.proofs.OnLiterals.{form_urlencoded_on_literals}
use Rattle.serde_json.proofs.OnLiterals.{serde_json_on_literals}
use Rattle.rb_acl.specs.declared.policy.Caller.{Caller}
use Rattle.rb_acl.specs.declared.policy.Decision.TheVariants.{NoneAllows}
use Rattle.rb_causes.specs.declared.items.Prop.{Prop}
use Rattle.rb_log.specs.declared.answer.Answer.{Answer}
use Rattle.rb_log.specs.declared.answer.Answer.TheVariants as answer
use Rattle.rb_log.specs.declared.answer.Reason.{Reason}
use Rattle.rb_log.specs.declared.call.Call.{Call}
use Rattle.rb_log.specs.declared.call.Call.TheVariants as call
use Rattle.rb_log.specs.declared.call.Look.TheVariants as look
use Rattle.rb_log.specs.declared.shown.NodeState.{NodeState}
use Rattle.rb_log.specs.declared.shown.Shown.TheVariants as shown
use Rattle.rb_log.specs.declared.shown.View.{View}
use Rattle.rb_marks.specs.declared.mark.Status.TheVariants.{Running, Failed}
use Rattle.rb_marks.specs.declared.mark.StepResult.TheVariants.{Good, Undone}
use Rattle.rb_plan.specs.declared.refusal.Refusal.TheVariants as refusal
use Rattle.rb_wire.specs.declared.heard.Request.{Request}
use Rattle.rb_wire.specs.declared.heard.WireFault.TheVariants.{BadHead}
use Rattle.rb_body.specs.Bodies.{run_body}
use Rattle.rb_body.specs.declared.parts.RunBody.{RunBody}
use Rattle.rb_api.specs.Calls.{call_of}
use Rattle.rb_reply.specs.Errors.{printed, wire_reply}
use Rattle.rb_query.specs.Queries.{query_fault}
use Rattle.rb_api.specs.Replies.{reply_to, refused_reply, reply_bytes}
use Rattle.rb_route.specs.Routes.{asked_of, is_version}
use Rattle.rb_query.specs.declared.query.Query.TheVariants.{Max, Offset, FileFormat, UuidOption}
use Rattle.rb_api.specs.declared.request_fault.RequestFault.{RequestFault}
use Rattle.rb_api.specs.declared.request_fault.RequestFault.TheVariants as fault
use Rattle.rb_route.specs.declared.route.Route.{Route}
use Rattle.rb_route.specs.declared.route.Route.TheVariants as route
use Rattle.rb_api.specs.declared.token.Token.{Token}

unfoldable computing : ⊤
unfolding digits chars is_utf8 utf8_lossy utf8_valid_len
    form_urlencoded_on_literals serde_json_on_literals
computing = tt

-- ---- paths

abbrev route_at : List ℕ → Option Route
route_at path = option_map (λ a. a.route) (asked_of path)

abbrev subject_at : List ℕ → Option (List ℕ)
subject_at path = option_map (λ a. a.subject) (asked_of path)

run_path : route_at (codes "/api/34/job/x-1/run") ≡ Some route.Run
run_path = refl

job_in_path : subject_at (codes "/api/34/job/x-1/run") ≡ Some (codes "x-1")
job_in_path = refl

state_path : route_at (codes "/api/24/execution/7/state") ≡ Some route.State
state_path = refl

import_path : route_at (codes "/api/34/project/desk/jobs/import") ≡ Some route.ImportJobs
import_path = refl

encoded_path : subject_at (codes "/api/34/project/d%65sk/jobs") ≡ Some (codes "d%65sk")
encoded_path = refl

no_path : map route_at (
    codes "/nowhere" ∷ codes "/api/34/job//run" ∷ codes "/api/34/job/x/run/"
    ∷ codes "//api/34/execution/1" ∷ codes "/API/34/execution/1" ∷ codes "/api/34/execution"
    ∷ codes "" ∷ [])
    ≡ None ∷ None ∷ None ∷ None ∷ None ∷ None ∷ None ∷ []
no_path = refl

versions : map is_version (
    codes "24" ∷ codes "34" ∷ codes "034" ∷ codes "23" ∷ codes "35" ∷ codes "x" ∷ codes ""
    ∷ codes "0000000000000000034" ∷ [])
    ≡ true ∷ true ∷ true ∷ false ∷ false ∷ false ∷ false ∷ false ∷ []
versions = refl

-- ---- queries

bad_number : query_fault route.Executions (codes "x=1&offset=x&max=y") ≡ Some Offset
unfolding computing
bad_number = refl

first_counts : query_fault route.Executions (codes "max=1&max=x") ≡ None
unfolding computing
first_counts = refl

encoded_name : query_fault route.Executions (codes "m%61x=1001") ≡ Some Max
unfolding computing
encoded_name = refl

no_value : query_fault route.Executions (codes "max") ≡ Some Max
unfolding computing
no_value = refl

another_route : query_fault route.Executions (codes "fileformat=xml") ≡ None
unfolding computing
another_route = refl

this_route : query_fault route.ImportJobs (codes "max=x&fileformat=xml") ≡ Some FileFormat
unfolding computing
this_route = refl

-- ---- bodies

abbrev said : Option (List Prop) → Option (List ℕ) → Option (List ℕ) → RunBody
said options args filter = record { options = options; args = args; filter = filter }

abbrev prop : List ℕ → List ℕ → Prop
prop key text = record { key = key; text = text }

empty_body : run_body [] ≡ Some (said None None None)
empty_body = refl

options_by_bytes : run_body (codes "{\"options\":{\"b\":\"1\",\"a\":null,\"A\":\"x\"},\"argString\":\"'\"}")
    ≡ Some (said (Some (prop (codes "A") (codes "x") ∷ prop (codes "b") (codes "1") ∷ []))
    (Some (codes "'")) None)
unfolding computing
options_by_bytes = refl

last_counts : run_body (codes "{\"options\":{\"mode\":\"soft\"},\"options\":null}")
    ≡ Some (said None None None)
unfolding computing
last_counts = refl

bad_bodies : map run_body (
    codes "null" ∷ codes "[]" ∷ codes " " ∷ codes "{" ∷ codes "{\"options\":1}"
    ∷ codes "{\"options\":{\"a\":1}}" ∷ codes "{\"asUser\":\"x\"}"
    ∷ codes "{\"options\":{},\"argString\":1}" ∷ [])
    ≡ None ∷ None ∷ None ∷ None ∷ None ∷ None ∷ None ∷ None ∷ []
unfolding computing
bad_bodies = refl

no_text : run_body (255 ∷ []) ≡ None
unfolding computing
no_text = refl

-- ---- calls

abbrev ann : Caller
ann = record { user = codes "ann"; groups = codes "ops" ∷ [] }

abbrev bob : Caller
bob = record { user = codes "bob"; groups = [] }

abbrev tokens : List Token
tokens =
    record { token = codes "t-ann"; caller = ann } ∷ record { token = codes "t-bob"; caller = bob }
    ∷ []

abbrev asks : Option (List ℕ) → List ℕ → List ℕ → List ℕ → List ℕ → Request
asks token method path query body = record {
  method = method;
  path = path;
  query = query;
  token = token;
  close = false;
  body = body;
}

abbrev ann_asks : List ℕ → List ℕ → List ℕ → List ℕ → Request
ann_asks method path query body = asks (Some (codes "t-ann")) method path query body

abbrev now : List ℕ → List ℕ → List ℕ → List ℕ → Result Call RequestFault
now method path query body = call_of tokens (ann_asks method path query body) (pos 1700000000)

abbrev run_request : Request
run_request =
    ann_asks (codes "POST") (codes "/api/34/job/7b1f0c2a-0001/run") []
    (codes "{\"options\":{\"mode\":\"soft\"}}")

run_asked : call_of tokens run_request (pos 1700000000)
    ≡ Ok (call.Run ann (record {
      job = codes "7b1f0c2a-0001";
      given = prop (codes "mode") (codes "soft") ∷ [];
      filter = None;
    }) (pos 1700000000))
unfolding computing
run_asked = refl

page_asked : now (codes "GET") (codes "/api/34/project/desk/executions")
    (codes "statusFilter=failed&max=1") []
    ≡ Ok (call.Look ann (look.Executions (codes "desk") 1 0 (Some Failed)))
unfolding computing
page_asked = refl

page_by_default : now (codes "GET") (codes "/api/34/project/desk/executions") [] []
    ≡ Ok (call.Look ann (look.Executions (codes "desk") 20 0 None))
unfolding computing
page_by_default = refl

jobs_asked : now (codes "POST") (codes "/api/34/project/desk/jobs/import") [] (codes "- name: a")
    ≡ Ok (call.ImportJobs ann true (codes "desk") (codes "- name: a") (pos 1700000000))
unfolding computing
jobs_asked = refl

-- what is imported has to be a text
no_text_of_jobs : now (codes "POST") (codes "/api/34/project/desk/jobs/import") [] (255 ∷ [])
    ≡ Err fault.BadBody
unfolding computing
no_text_of_jobs = refl

no_text_of_policies : now (codes "POST") (codes "/api/34/system/acl/ops.aclpolicy") [] (255 ∷ [])
    ≡ Err fault.BadBody
unfolding computing
no_text_of_policies = refl

abort_asked : now (codes "GET") (codes "/api/34/execution/077/abort") [] []
    ≡ Ok (call.Abort ann 77 (pos 1700000000))
abort_asked = refl

-- each check goes before those behind it
refused_in_order : map (λ token. call_of tokens
    (asks token (codes "DELETE") (codes "/nowhere") [] []) (pos 0))
    (None ∷ Some (codes "t-an") ∷ Some (codes "t-anna") ∷ Some (codes "t-ann") ∷ [])
    ≡ Err fault.Unauthorized ∷ Err fault.Unauthorized ∷ Err fault.Unauthorized
    ∷ Err fault.NoRoute ∷ []
refused_in_order = refl

method_first : now (codes "DELETE") (codes "/api/23/execution/1") [] [] ≡ Err fault.NoMethod
method_first = refl

version_then : now (codes "POST") (codes "/api/23/job/x/run") [] (codes "{") ≡ Err fault.BadVersion
version_then = refl

query_then : now (codes "POST") (codes "/api/34/project/p/jobs/import")
    (codes "uuidOption=x&fileformat=") (255 ∷ []) ≡ Err (fault.BadQuery UuidOption)
unfolding computing
query_then = refl

no_number : now (codes "GET") (codes "/api/34/execution/1x") [] [] ≡ Err fault.NoExecution
no_number = refl

-- ---- replies as they are written

abbrev body_to : Request → Answer → List ℕ
body_to request a = (printed (reply_to request a)).body

abbrev told : RequestFault → List ℕ
told f = (printed (refused_reply (ann_asks (codes "GET") (codes "/nowhere") [] []) f)).body

no_route : told fault.NoRoute
    ≡ codes "{\"apiversion\":34,\"error\":true,\"errorCode\":\"no-route\",\"message\":\"no such route\"}"
unfolding computing
no_route = refl

no_route_length : length (told fault.NoRoute) ≡ 79
unfolding computing
no_route_length = refl

no_token_length : length (told fault.Unauthorized) ≡ 85
unfolding computing
no_token_length = refl

bad_head_length : length (printed (wire_reply BadHead)).body ≡ 87
unfolding computing
bad_head_length = refl

bad_query : told (fault.BadQuery Offset)
    ≡ codes "{\"apiversion\":34,\"error\":true,\"errorCode\":\"bad-query\",\"message\":\"query offset not read\"}"
unfolding computing
bad_query = refl

abbrev denied_on : List ℕ → List ℕ → Reason
denied_on action thing =
    record { decision = NoneAllows; action = action; thing = thing; clause = codes "none allows" }

abbrev denied : Answer
denied =
    answer.Refused (refusal.JobDenied NoneAllows)
    (Some (denied_on (codes "run") (codes "job ops/restart")))

denied_run : body_to run_request denied
    ≡ codes "{\"apiversion\":34,\"clause\":\"none allows\",\"error\":true,\"errorCode\":\"denied\",\"message\":\"run denied on job ops/restart\"}"
unfolding computing
denied_run = refl

denied_run_length : length (body_to run_request denied) ≡ 116
unfolding computing
denied_run_length = refl

denied_kind_length : length (body_to (ann_asks (codes "GET") (codes "/api/34/project/desk/resources") [] [])
    (answer.Denied (denied_on (codes "read") (codes "kind node")))) ≡ 111
unfolding computing
denied_kind_length = refl

abbrev view : View
view = record {
  dropped = record { clause = codes "ops.aclpolicy#1 for node rule 2"; node = codes "web2" } ∷ [];
  id = 1;
  job = codes "7b1f0c2a-0001";
  nodes = codes "web1" ∷ codes "web3" ∷ [];
  options = prop (codes "mode") (codes "soft") ∷ [];
  project = codes "desk";
  started = pos 1700000000;
  status = Running;
  user = codes "ann";
}

accepted : body_to run_request (answer.Accepted view)
    ≡ codes "{\"dropped\":[{\"clause\":\"ops.aclpolicy#1 for node rule 2\",\"node\":\"web2\"}],\"id\":1,\"job\":\"7b1f0c2a-0001\",\"nodes\":[\"web1\",\"web3\"],\"options\":{\"mode\":\"soft\"},\"project\":\"desk\",\"started\":1700000000,\"status\":\"running\",\"user\":\"ann\"}"
unfolding computing
accepted = refl

accepted_length : length (body_to run_request (answer.Accepted view)) ≡ 221
unfolding computing
accepted_length = refl

-- of a state, a withdrawn node has its clause, and no other node
abbrev states : List NodeState
states =
    record { clause = None; node = codes "web1"; steps = Good ∷ [] }
    ∷ record {
      clause = Some (codes "ops.aclpolicy#1 for node rule 2");
      node = codes "web3";
      steps = Undone ∷ [];
    }
    ∷ []

withdrawn_state : body_to (ann_asks (codes "GET") (codes "/api/34/execution/1/state") [] [])
    (answer.Shown (shown.State 1 states Failed))
    ≡ codes "{\"id\":1,\"nodes\":[{\"node\":\"web1\",\"steps\":[\"ok\"]},{\"clause\":\"ops.aclpolicy#1 for node rule 2\",\"node\":\"web3\",\"steps\":[\"undone\"]}],\"status\":\"failed\"}"
unfolding computing
withdrawn_state = refl

-- all bytes of a reply
running_bytes : reply_bytes (reply_to run_request (answer.Refused (refusal.AlreadyRunning 1) None)) false
    ≡ codes "HTTP/1.1 409 Conflict\r\nContent-Type: application/json\r\nContent-Length: 95\r\nConnection: keep-alive\r\n\r\n{\"apiversion\":34,\"error\":true,\"errorCode\":\"already-running\",\"message\":\"execution 1 is running\"}"
unfolding computing
running_bytes = refl
