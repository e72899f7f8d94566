-- The one call of the desk that a request makes, or why it makes none.
use Rattle.std.specs.Prelude.{◌≡◌, ◌≢◌, ◌⊎◌, ◌≤◌, ◌<◌, ℕ, ℤ, Bool, true, List, [], length, Option, Some, None, ok_or, Result, Ok, Err, if◌then◌else◌}
use Rattle.rb_acl.specs.declared.policy.Caller.{Caller}
use Rattle.rb_causes.specs.Numbers.{decimal_of}
use Rattle.rb_causes.specs.declared.items.Prop.{Prop}
use Rattle.rb_log.specs.Legal.{IsFormed}
use Rattle.rb_log.specs.declared.call.Call.{Call}
use Rattle.rb_log.specs.declared.call.Call.TheVariants as call
use Rattle.rb_log.specs.declared.call.Look.{Look}
use Rattle.rb_log.specs.declared.call.Look.TheVariants as look
use Rattle.rb_node.specs.Filters.{IsFirstFaultIn}
use Rattle.rb_node.specs.declared.filter_err.FilterErr.{FilterErr}
use Rattle.rb_node.specs.declared.filter_err.FilterErr.TheVariants as filter_err
use Rattle.rb_option.specs.Arguments.{args_of}
use Rattle.rb_option.specs.declared.option_err.ArgsErr.{ArgsErr}
use Rattle.rb_plan.specs.declared.world.RunAsk.{RunAsk}
use Rattle.rb_wire.specs.Heads.{text_if}
use Rattle.rb_wire.specs.declared.heard.Request.{Request}
use Rattle.rb_yaml.specs.Faults.{◌>>=◌}
use Rattle.rb_body.specs.Bodies.{run_body}
use Rattle.rb_query.specs.Queries.{query_pairs, query_fault, value_of, number_or, status_asked}
use Rattle.rb_route.specs.Routes.{asked_of, takes_method, is_version}
use Rattle.rb_api.specs.Tokens.{caller_by}
use Rattle.rb_query.specs.declared.query.Query.{Query}
use Rattle.rb_query.specs.declared.query.Query.TheVariants.{Max, Offset}
use Rattle.rb_api.specs.declared.request_fault.RequestFault.{RequestFault}
use Rattle.rb_api.specs.declared.request_fault.RequestFault.TheVariants.{Unauthorized, NoRoute, NoMethod, BadVersion, BadQuery, BadBody, BadArgs, BadFilter, NoExecution}
use Rattle.rb_route.specs.declared.route.Route.{Route}
use Rattle.rb_route.specs.declared.route.Route.TheVariants as route
use Rattle.rb_api.specs.declared.token.Token.{Token}

-- what has to hold, or else the fault
abbrev pub demand : Bool → RequestFault → Result Bool RequestFault
demand holds fault = if holds then Ok true else Err fault

-- there is no such fault of a query
abbrev pub without_fault : Option Query → Result Bool RequestFault
without_fault None = Ok true
without_fault (Some query) = Err (BadQuery query)

-- ---- a run

abbrev pub args_read : Result (List Prop) ArgsErr → Result (List Prop) RequestFault
args_read (Ok pairs) = Ok pairs
args_read (Err fault) = Err BadArgs

-- what is given to a run: by its options, and where there are none by the words of its args, in
-- their order
abbrev pub given_by : Option (List Prop) → Option (List ℕ) → Result (List Prop) RequestFault
given_by (Some options) args = Ok options
given_by None (Some args) = args_read (args_of args)
given_by None None = Ok []

abbrev pub ask_of : List ℕ → List Prop → Option (List ℕ) → RunAsk
ask_of job given filter = record { job = job; given = given; filter = filter }

abbrev pub run_call : Caller → List ℕ → List ℕ → ℤ → Result Call RequestFault
run_call caller job body at =
    ok_or (run_body body) BadBody >>= λ said.
    given_by said.options said.args >>= λ given.
    Ok (call.Run caller (ask_of job given said.filter) at)

-- ---- executions

abbrev pub look_call : Caller → Look → Call
look_call caller look = call.Look caller look

-- the call on the execution of this number
abbrev pub numbered : List ℕ → (ℕ → Call) → Result Call RequestFault
numbered number make = ok_or (decimal_of number) NoExecution >>= λ n. Ok (make n)

-- a page of a project's executions: 20 from the first on, where nothing else is asked for
abbrev pub page_asked : List ℕ → List Prop → Look
page_asked project pairs =
    look.Executions project (number_or 20 (value_of Max pairs)) (number_or 0 (value_of Offset pairs))
    (status_asked pairs)

-- ---- imports: a body is a text, and permission is asked for

abbrev pub text_of : List ℕ → Result (List ℕ) RequestFault
text_of body = ok_or (text_if body) BadBody

abbrev pub import_jobs_call : Caller → List ℕ → List ℕ → ℤ → Result Call RequestFault
import_jobs_call caller project body at =
    text_of body >>= λ text. Ok (call.ImportJobs caller true project text at)

abbrev pub import_policy_call : Caller → List ℕ → List ℕ → ℤ → Result Call RequestFault
import_policy_call caller name body at =
    text_of body >>= λ text. Ok (call.ImportPolicy caller true name text at)

-- ---- all routes

-- the call of a caller on a route, on what its path speaks of
abbrev pub call_on : Caller → List ℕ → Request → ℤ → Route → Result Call RequestFault
call_on caller job request at route.Run = run_call caller job request.body at
call_on caller number request at route.Execution =
    numbered number (λ n. look_call caller (look.Execution n))
call_on caller number request at route.State =
    numbered number (λ n. look_call caller (look.State n))
call_on caller number request at route.Abort = numbered number (λ n. call.Abort caller n at)
call_on caller project request at route.Jobs = Ok (look_call caller (look.Jobs project))
call_on caller project request at route.ImportJobs =
    without_fault (query_fault route.ImportJobs request.query) >>= λ read.
    import_jobs_call caller project request.body at
call_on caller project request at route.Resources = Ok (look_call caller (look.Resources project))
call_on caller project request at route.Executions =
    without_fault (query_fault route.Executions request.query) >>= λ read.
    Ok (look_call caller (page_asked project (query_pairs request.query)))
call_on caller name request at route.ImportPolicy =
    import_policy_call caller name request.body at

-- The call that a request makes at a moment, where its filter is read, or the first fault that is
-- looked for.
abbrev pub call_of : List Token → Request → ℤ → Result Call RequestFault
call_of tokens request at =
    ok_or (caller_by tokens request.token) Unauthorized >>= λ caller.
    ok_or (asked_of request.path) NoRoute >>= λ asked.
    demand (takes_method asked.route request.method) NoMethod >>= λ method.
    demand (is_version asked.version) BadVersion >>= λ version.
    call_on caller asked.subject request at asked.route

-- ---- the filter of a run, which is looked at last. Whether a text is refused as a pattern rests
-- on how big it grows, so that this is no function of the text.

-- a filter of this text is refused, and not for want of memory
abbrev pub IsRefusedFilter : List ℕ → Type 0
IsRefusedFilter text =
    (1024 < length text)
    ⊎ ((length text ≤ 1024)
    × ((e : FilterErr) × (e ≢ filter_err.NoMemory) × IsFirstFaultIn text e))

abbrev pub IsRefused : Option (List ℕ) → Type 0
IsRefused None = ⊥
IsRefused (Some text) = IsRefusedFilter text

abbrev pub HasRefusedFilter : Call → Type 0
HasRefusedFilter (call.Run caller ask at) = IsRefused ask.filter
HasRefusedFilter other = ⊥

-- What a request comes to, for what the reader of filters may give: its call, or a fault.
abbrev pub ComesTo : List Token → Request → ℤ → Result Call RequestFault → Type 0
ComesTo tokens request at (Ok c) = (call_of tokens request at ≡ Ok c) × IsFormed c
ComesTo tokens request at (Err BadFilter) =
    (c : Call) × (call_of tokens request at ≡ Ok c) × HasRefusedFilter c
ComesTo tokens request at (Err fault) = call_of tokens request at ≡ Err fault
