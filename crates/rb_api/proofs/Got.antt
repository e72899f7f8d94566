-- What is got by GET adds no row, but for an abort.
use Rattle.std.proofs.Common.{◌≡◌, ◌⊎◌, inl, inr, ℕ, ℤ, true, List, Option, Some, None, Result, Ok, Err, ok_or, is_some, codes, bytes_eq, subst, refl, arith}
use Rattle.rb_acl.specs.declared.policy.Caller.{Caller}
use Rattle.rb_causes.specs.Numbers.{decimal_of}
use Rattle.rb_causes.specs.declared.row.Row.{Row}
use Rattle.rb_causes.proofs.Texts.{text_is}
use Rattle.rb_log.specs.Readings.{Reading}
use Rattle.rb_log.specs.LogState.{LogState, log_state}
use Rattle.rb_log.specs.Looks.{look_at}
use Rattle.rb_log.specs.Moves.{Moved, must, moved_or, access_in, permitted_on_kind, limited, limited_by}
use Rattle.rb_log.specs.Runs.{known, may_act_on}
use Rattle.rb_log.specs.Turn.{turn_of}
use Rattle.rb_log.specs.World.{latest_nodes}
use Rattle.rb_log.specs.declared.answer.Answer.{Answer}
use Rattle.rb_log.specs.declared.answer.Answer.TheVariants as answer
use Rattle.rb_log.specs.declared.call.Call.{Call}
use Rattle.rb_log.specs.declared.call.Call.TheVariants as call
use Rattle.rb_log.specs.declared.call.Look.{Look}
use Rattle.rb_log.specs.declared.call.Look.TheVariants as look
use Rattle.rb_wire.specs.declared.heard.Request.{Request}
use Rattle.rb_yaml.specs.Faults.{◌>>=◌}
use Rattle.rb_api.specs.Calls.{demand, without_fault, numbered, look_call, call_on, call_of}
use Rattle.rb_api.specs.Laws.{IsLook, IsAbort, GetsAddNothing}
use Rattle.rb_query.specs.Queries.{query_fault}
use Rattle.rb_route.specs.Routes.{get, asked_of, takes_method, is_version}
use Rattle.rb_api.specs.Tokens.{caller_by}
use Rattle.rb_api.specs.declared.request_fault.RequestFault.TheVariants.{Unauthorized, NoRoute, NoMethod, BadVersion, NoExecution}
use Rattle.rb_route.specs.declared.route.Route.{Route}
use Rattle.rb_route.specs.declared.route.Route.TheVariants as route
use Rattle.rb_api.specs.declared.token.Token.{Token}
use Rattle.rb_api.proofs.Chains.{bind_ok, ok_is, demand_holds}

abbrev Got : Call → Type 0
Got c = IsLook c ⊎ IsAbort c

got_is : (x c : Call) → x ≡ c → Got x → Got c
got_is x c h k = subst Got h k

number_got : (number : List ℕ) (make : ℕ → Call) (c : Call) → ((n : ℕ) → Got (make n))
    → numbered number make ≡ Ok c → Got c
number_got number make c f h =
    let a = bind_ok (ok_or (decimal_of number) NoExecution) _ c h in
    got_is (make a.0) c (ok_is _ (make a.0) c refl a.2) (f a.0)

got_on : (caller : Caller) (subject : List ℕ) (request : Request) (at : ℤ) (r : Route) (c : Call)
    → takes_method r get ≡ true → call_on caller subject request at r ≡ Ok c → Got c
got_on caller subject request at route.Run c m h = absurd (grind (arith, m))
got_on caller subject request at route.Execution c m h =
    number_got subject (λ n. look_call caller (look.Execution n)) c (λ n. inl tt) h
got_on caller subject request at route.State c m h =
    number_got subject (λ n. look_call caller (look.State n)) c (λ n. inl tt) h
got_on caller subject request at route.Abort c m h =
    number_got subject (λ n. call.Abort caller n at) c (λ n. inr tt) h
got_on caller subject request at route.Jobs c m h = got_is _ c (ok_is _ _ c refl h) (inl tt)
got_on caller subject request at route.ImportJobs c m h = absurd (grind (arith, m))
got_on caller subject request at route.Resources c m h = got_is _ c (ok_is _ _ c refl h) (inl tt)
got_on caller subject request at route.Executions c m h =
    let a = bind_ok (without_fault (query_fault route.Executions request.query)) _ c h in
    got_is _ c (ok_is _ _ c refl a.2) (inl tt)
got_on caller subject request at route.ImportPolicy c m h = absurd (grind (arith, m))

got : (tokens : List Token) (request : Request) (at : ℤ) (c : Call)
    → bytes_eq request.method get ≡ true → call_of tokens request at ≡ Ok c → Got c
got tokens request at c is h =
    let a = bind_ok (ok_or (caller_by tokens request.token) Unauthorized) _ c h in
    let b = bind_ok (ok_or (asked_of request.path) NoRoute) _ c a.2 in
    let m = bind_ok (demand (takes_method b.0.route request.method) NoMethod) _ c b.2 in
    let v = bind_ok (demand (is_version b.0.version) BadVersion) _ c m.2 in
    got_on a.0 b.0.subject request at b.0.route c
    (subst (λ method. takes_method b.0.route method ≡ true) (text_is request.method get is)
    (demand_holds (takes_method b.0.route request.method) NoMethod m.0 m.1)) v.2

-- ---- a look adds no row

no_row : {A : Type 0} (r : Result A Answer) (f : A → Result Moved Answer)
    → ((x : A) → (moved_or (f x)).row ≡ None) → (moved_or (r >>= f)).row ≡ None
no_row (Ok x) f h = h x
no_row (Err a) f h = refl

look_adds_none : (s : LogState) (caller : Caller) (l : Look) → (look_at s caller l).row ≡ None
look_adds_none s caller (look.Execution number) =
    no_row (known s number) _ (λ e. no_row (may_act_on s caller (codes "read") e) _ (λ x. refl))
look_adds_none s caller (look.State number) =
    no_row (known s number) _ (λ e. no_row (may_act_on s caller (codes "read") e) _ (λ x. refl))
look_adds_none s caller (look.Jobs project) =
    no_row (must (is_some (latest_nodes project s.projects)) answer.NoProject) _ (λ x. refl)
look_adds_none s caller (look.Resources project) =
    no_row (must (is_some (latest_nodes project s.projects)) answer.NoProject) _ (λ x.
    no_row (permitted_on_kind (access_in s project caller) (codes "read") (codes "node")) _
    (λ y. refl))
look_adds_none s caller (look.Executions project most offset wanted) =
    no_row (must (is_some (latest_nodes project s.projects)) answer.NoProject) _ (λ x. refl)

limited_none_by : (s : LogState) (room : ℕ) (m : Moved) (row : Option Row) (need : Option ℕ)
    → row ≡ None → m.row ≡ None → (limited_by s room m row need).row ≡ None
limited_none_by s room m None need h k = k
limited_none_by s room m (Some row) need h k = absurd (grind (arith, h))

limited_none : (s : LogState) (room : ℕ) (m : Moved) → m.row ≡ None
    → (limited s room m).row ≡ None
limited_none s room m h = limited_none_by s room m m.row m.need h h

adds : (reading : Reading) (past : List Row) (room : ℕ) (c : Call) → IsLook c
    → (turn_of reading past room c).row ≡ None
adds reading past room (call.Look caller l) h =
    limited_none (log_state past) room (look_at (log_state past) caller l)
    (look_adds_none (log_state past) caller l)
adds reading past room (call.ImportPolicy who checked name body when) h = absurd h
adds reading past room (call.ImportJobs who checked project body when) h = absurd h
adds reading past room (call.Run who ask when) h = absurd h
adds reading past room (call.Abort who execution when) h = absurd h
adds reading past room (call.ImportZone name rule when) h = absurd h
adds reading past room (call.ImportNodes project body when) h = absurd h
adds reading past room (call.Tick when) h = absurd h
adds reading past room (call.Claim worker when) h = absurd h
adds reading past room (call.Report done when) h = absurd h
adds reading past room (call.CloseDoor door when) h = absurd h
adds reading past room call.Save h = absurd h

pub gets_add_nothing : GetsAddNothing
gets_add_nothing = record { looks = got; adds = adds }
