-- The router has the rows that are found so.
use Rattle.std.proofs.Common.{◌≡◌, ◌∙◌, ℕ, List, [], codes, option_map, Result, Ok, Err, ap, refl}
use Rattle.std.specs.Option.{option_and_then}
use Rattle.matchit.proofs.OnLiterals.{matchit_on_literals}
use Rattle.matchit.specs.Route.{Scan, parse_route}
use Rattle.matchit.specs.Router.{RouteOf, route_from}
use Rattle.matchit.specs.Rows.{RowsOf}
use Rattle.matchit.specs.Seek.{seek}
use Rattle.matchit.specs.declared.error.InsertError.{InsertError}
use Rattle.rb_route.specs.Router.{MatchitFinds, asked_in, router}
use Rattle.rb_route.specs.Routes.{path_pieces}
use Rattle.rb_route.specs.declared.route.Route.{Route}
use Rattle.rb_route.specs.declared.route.Route.TheVariants.{Run, Execution, State, Abort, Jobs, ImportJobs, Resources, Executions, ImportPolicy}
use Rattle.rb_route.proofs.Found.{table, table_agrees}

abbrev entry_with : Route → Result Scan InsertError → RouteOf Route
entry_with r (Ok s) = route_from s r
entry_with r (Err e) = record { pattern = []; text = []; names = []; value = r }

value_with : (r : Route) (x : Result Scan InsertError) → (entry_with r x).value ≡ r
value_with r (Ok s) = refl
value_with r (Err e) = refl

abbrev text_of : Route → List ℕ
text_of Run = codes "/api/{version}/job/{id}/run"
text_of Execution = codes "/api/{version}/execution/{number}"
text_of State = codes "/api/{version}/execution/{number}/state"
text_of Abort = codes "/api/{version}/execution/{number}/abort"
text_of Jobs = codes "/api/{version}/project/{project}/jobs"
text_of ImportJobs = codes "/api/{version}/project/{project}/jobs/import"
text_of Resources = codes "/api/{version}/project/{project}/resources"
text_of Executions = codes "/api/{version}/project/{project}/executions"
text_of ImportPolicy = codes "/api/{version}/system/acl/{name}"

abbrev entry_of : Route → RouteOf Route
entry_of r = entry_with r (parse_route (text_of r))

same : (r : Route) → (entry_of r).value ≡ r
same r = value_with r (parse_route (text_of r))

router_is : router ≡ table entry_of (λ r. r.value) same
unfolding matchit_on_literals
router_is = refl

pub matchit_finds : MatchitFinds
matchit_finds path text =
    ap (λ (rows : RowsOf (RouteOf Route)). option_and_then (asked_in (path_pieces path))
    (option_map (λ r. r.value) (seek 0 rows path))) router_is
    ∙ table_agrees entry_of (λ r. r.value) same path text
