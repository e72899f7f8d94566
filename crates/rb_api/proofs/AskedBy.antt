-- Who asks, and whose a call is.
use Rattle.std.proofs.Common.{◌≡◌, ◌∙◌, ℕ, zero, suc, ℤ, Bool, true, List, [], ◌∷◌, Option, Some, None, Ok, ok_or, find, option_map, slice_get, bytes_eq, unwrap_or, IsTrue, ap, sym, subst, refl, arith}
use Rattle.std.specs.List.{list_all}
use Rattle.std.proofs.lemmas.Bool.{and_parts}
use Rattle.rb_acl.specs.declared.policy.Caller.{Caller}
use Rattle.rb_causes.specs.Moments.{IsMoment}
use Rattle.rb_causes.specs.Numbers.{decimal_of}
use Rattle.rb_causes.proofs.Lists.{find_gives, some_is}
use Rattle.rb_causes.proofs.Texts.{text_is}
use Rattle.rb_log.specs.Legal.{Rights, MayAsk}
use Rattle.rb_log.specs.Rows.{is_clean_caller}
use Rattle.rb_log.specs.declared.call.Call.{Call}
use Rattle.rb_log.specs.declared.call.Call.TheVariants as call
use Rattle.rb_log.specs.declared.call.Look.TheVariants as look
use Rattle.rb_wire.specs.declared.heard.Request.{Request}
use Rattle.rb_body.specs.Bodies.{run_body}
use Rattle.rb_api.specs.Calls.{demand, without_fault, given_by, run_call, numbered, look_call, text_of, import_jobs_call, import_policy_call, call_on}
use Rattle.rb_api.specs.Laws.{IsListed, CallersAreListed, IsAskedBy, CallsAreTheCallers, CallsMayBeAsked, are_clean}
use Rattle.rb_query.specs.Queries.{query_fault}
use Rattle.rb_route.specs.Routes.{asked_of, takes_method, is_version}
use Rattle.rb_api.specs.Tokens.{caller_by}
use Rattle.rb_api.specs.declared.request_fault.RequestFault.TheVariants.{Unauthorized, NoRoute, NoMethod, BadVersion, BadBody, NoExecution}
use Rattle.rb_route.specs.declared.route.Route.{Route}
use Rattle.rb_route.specs.declared.route.Route.TheVariants as route
use Rattle.rb_api.specs.declared.token.Token.{Token}
use Rattle.rb_api.proofs.Chains.{bind_ok, ok_is, some_passed}

-- ---- who asks

listed_by : (tokens : List Token) (text : List ℕ) (caller : Caller) (o : Option Token)
    → find (λ t. bytes_eq t.token text) tokens ≡ o → option_map (λ t. t.caller) o ≡ Some caller
    → IsListed tokens (Some text) caller
listed_by tokens text caller None h k = absurd (grind (arith, k))
listed_by tokens text caller (Some t) h k =
    let g = find_gives (λ t. bytes_eq t.token text) tokens t h in
    record {
      place = g.0;
      token = t;
      listed = g.1;
      whole = ap Some (sym (text_is t.token text g.2));
      caller_is = sym (some_is t.caller caller k);
    }

pub callers_are_listed : CallersAreListed
callers_are_listed tokens None caller h = absurd (grind (arith, h))
callers_are_listed tokens (Some text) caller h =
    listed_by tokens text caller (find (λ t. bytes_eq t.token text) tokens) refl h

-- ---- whose a call is

asked_is : (caller : Caller) (at : ℤ) (x c : Call) → x ≡ c → IsAskedBy caller at x
    → IsAskedBy caller at c
asked_is caller at x c h k = subst (IsAskedBy caller at) h k

run_asked : (caller : Caller) (job body : List ℕ) (at : ℤ) (c : Call)
    → run_call caller job body at ≡ Ok c → IsAskedBy caller at c
run_asked caller job body at c h =
    let a = bind_ok (ok_or (run_body body) BadBody) _ c h in
    let b = bind_ok (given_by a.0.options a.0.args) _ c a.2 in
    asked_is caller at _ c (ok_is _ _ c refl b.2) (refl, refl)

number_asked : (caller : Caller) (at : ℤ) (number : List ℕ) (make : ℕ → Call) (c : Call)
    → ((n : ℕ) → IsAskedBy caller at (make n)) → numbered number make ≡ Ok c
    → IsAskedBy caller at c
number_asked caller at number make c f h =
    let a = bind_ok (ok_or (decimal_of number) NoExecution) _ c h in
    asked_is caller at (make a.0) c (ok_is _ (make a.0) c refl a.2) (f a.0)

jobs_asked : (caller : Caller) (project body : List ℕ) (at : ℤ) (c : Call)
    → import_jobs_call caller project body at ≡ Ok c → IsAskedBy caller at c
jobs_asked caller project body at c h =
    let a = bind_ok (text_of body) _ c h in
    asked_is caller at _ c (ok_is _ _ c refl a.2) (refl, refl, refl)

policy_asked : (caller : Caller) (name body : List ℕ) (at : ℤ) (c : Call)
    → import_policy_call caller name body at ≡ Ok c → IsAskedBy caller at c
policy_asked caller name body at c h =
    let a = bind_ok (text_of body) _ c h in
    asked_is caller at _ c (ok_is _ _ c refl a.2) (refl, refl, refl)

pub asked_on : (caller : Caller) (subject : List ℕ) (request : Request) (at : ℤ) (r : Route)
    (c : Call) → call_on caller subject request at r ≡ Ok c → IsAskedBy caller at c
asked_on caller subject request at route.Run c h =
    run_asked caller subject request.body at c h
asked_on caller subject request at route.Execution c h =
    number_asked caller at subject (λ n. look_call caller (look.Execution n)) c (λ n. refl) h
asked_on caller subject request at route.State c h =
    number_asked caller at subject (λ n. look_call caller (look.State n)) c (λ n. refl) h
asked_on caller subject request at route.Abort c h =
    number_asked caller at subject (λ n. call.Abort caller n at) c (λ n. (refl, refl)) h
asked_on caller subject request at route.Jobs c h = asked_is caller at _ c (ok_is _ _ c refl h) refl
asked_on caller subject request at route.ImportJobs c h =
    let a = bind_ok (without_fault (query_fault route.ImportJobs request.query)) _ c h in
    jobs_asked caller subject request.body at c a.2
asked_on caller subject request at route.Resources c h = asked_is caller at _ c (ok_is _ _ c refl h) refl
asked_on caller subject request at route.Executions c h =
    let a = bind_ok (without_fault (query_fault route.Executions request.query)) _ c h in
    asked_is caller at _ c (ok_is _ _ c refl a.2) refl
asked_on caller subject request at route.ImportPolicy c h =
    policy_asked caller subject request.body at c h

pub calls_are_the_callers : CallsAreTheCallers
calls_are_the_callers tokens request at c h =
    let a = bind_ok (ok_or (caller_by tokens request.token) Unauthorized) _ c h in
    let b = bind_ok (ok_or (asked_of request.path) NoRoute) _ c a.2 in
    let m = bind_ok (demand (takes_method b.0.route request.method) NoMethod) _ c b.2 in
    let v = bind_ok (demand (is_version b.0.version) BadVersion) _ c m.2 in (
      a.0,
      some_passed (caller_by tokens request.token) Unauthorized a.0 a.1,
      asked_on a.0 b.0.subject request at b.0.route c v.2,
    )

-- ---- it may be asked

all_at : {A : Type 0} (p : A → Bool) (xs : List A) (k : ℕ) (y : A) → list_all p xs ≡ true
    → slice_get xs k ≡ Some y → p y ≡ true
all_at p [] k y h g = absurd (grind (arith, g))
all_at p (x ∷ xs) zero y h g =
    ap (λ o. p (unwrap_or o x)) (sym g) ∙ (and_parts (p x) (list_all p xs) h).0
all_at p (x ∷ xs) (suc k) y h g = all_at p xs k y (and_parts (p x) (list_all p xs) h).1 g

may_ask : (rights : Rights) (caller : Caller) (at : ℤ) (c : Call)
    → IsTrue (is_clean_caller caller) → IsMoment at → IsAskedBy caller at c → MayAsk rights c
may_ask rights caller at (call.ImportPolicy who checked name body when) clean now h =
    (subst IsMoment (sym h.2) now, subst (λ w. IsTrue (is_clean_caller w)) (sym h.0) clean)
may_ask rights caller at (call.ImportJobs who checked project body when) clean now h =
    (subst IsMoment (sym h.2) now, subst (λ w. IsTrue (is_clean_caller w)) (sym h.0) clean)
may_ask rights caller at (call.Run who ask when) clean now h =
    (subst IsMoment (sym h.1) now, subst (λ w. IsTrue (is_clean_caller w)) (sym h.0) clean)
may_ask rights caller at (call.Abort who execution when) clean now h =
    (subst IsMoment (sym h.1) now, subst (λ w. IsTrue (is_clean_caller w)) (sym h.0) clean)
may_ask rights caller at (call.Look who l) clean now h =
    subst (λ w. IsTrue (is_clean_caller w)) (sym h) clean
may_ask rights caller at (call.ImportZone name rule when) clean now h = absurd h
may_ask rights caller at (call.ImportNodes project body when) clean now h = absurd h
may_ask rights caller at (call.Tick when) clean now h = absurd h
may_ask rights caller at (call.Claim worker when) clean now h = absurd h
may_ask rights caller at (call.Report done when) clean now h = absurd h
may_ask rights caller at (call.CloseDoor door when) clean now h = absurd h
may_ask rights caller at call.Save clean now h = absurd h

clean_by : (tokens : List Token) (given : Option (List ℕ)) (caller : Caller)
    → IsTrue (are_clean tokens) → IsListed tokens given caller → IsTrue (is_clean_caller caller)
clean_by tokens given caller clean l =
    subst (λ c. IsTrue (is_clean_caller c)) (sym l.caller_is)
    (all_at (λ token. is_clean_caller token.caller) tokens l.place l.token clean l.listed)

pub calls_may_be_asked : CallsMayBeAsked
calls_may_be_asked rights tokens request at c clean now h =
    let a = calls_are_the_callers tokens request at c h in
    may_ask rights a.0 at c
    (clean_by tokens request.token a.0 clean
    (callers_are_listed tokens request.token a.0 a.1)) now a.2
