-- The router that is built of the patterns, and what it finds.
use Rattle.std.specs.Prelude.{◌≡◌, ℕ, List, [], ◌∷◌, slice_get, Option, Some, None, option_map, Result, Ok, Err}
use Rattle.std.specs.Option.{option_and_then}
use Rattle.matchit.specs.Level.{IsText}
use Rattle.matchit.specs.Order.{placed}
use Rattle.matchit.specs.Route.{Scan, parse_route}
use Rattle.matchit.specs.Router.{RouteOf, route_from}
use Rattle.matchit.specs.Rows.{RowsOf}
use Rattle.matchit.specs.Seek.{first}
use Rattle.matchit.specs.declared.error.InsertError.{InsertError}
use Rattle.rb_route.specs.Routes.{Pattern, Asked, asked_at, asked_of, path_pieces, patterns}
use Rattle.rb_route.specs.declared.route.Route.{Route}
use Rattle.rb_route.specs.declared.route.Route.TheVariants.{Run, Execution, State, Abort, Jobs, ImportJobs, Resources, Executions, ImportPolicy}

abbrev pub Routes : Type 0
Routes = RowsOf (RouteOf Route)

-- ---- the router

-- with one more route, as `insert` puts it
abbrev pub with_read : Route → Result Scan InsertError → Routes → Routes
with_read route (Ok s) routes = placed (s.pattern, route_from s route) routes
with_read route (Err e) routes = routes

abbrev pub with_patterns : List Pattern → Routes → Routes
with_patterns [] routes = routes
with_patterns (p ∷ ps) routes = with_patterns ps (with_read p.route (parse_route p.text) routes)

-- the patterns, put in one after another
abbrev pub router : Routes
router = with_patterns patterns []

-- ---- what it finds

abbrev pub route_found : List ℕ → Option Route
route_found path = option_map (λ r. r.value) (first router path)

-- the place of what is spoken of among the pieces of a path of this route
abbrev pub subject_place : Route → ℕ
subject_place Run = 4
subject_place Execution = 4
subject_place State = 4
subject_place Abort = 4
subject_place Jobs = 4
subject_place ImportJobs = 4
subject_place Resources = 4
subject_place Executions = 4
subject_place ImportPolicy = 5

abbrev pub asked_if : Route → Option (List ℕ) → Option (List ℕ) → Option Asked
asked_if route (Some version) (Some subject) = Some (asked_at route version subject)
asked_if route version subject = None

abbrev pub asked_in : List (List ℕ) → Route → Option Asked
asked_in pieces route =
    asked_if route (slice_get pieces 2) (slice_get pieces (subject_place route))

-- what a path asks for by the router
abbrev pub found_of : List ℕ → Option Asked
found_of path = option_and_then (asked_in (path_pieces path)) (route_found path)

-- the router finds what a path asks for by its form
abbrev pub MatchitFinds : Type 0
MatchitFinds = (path : List ℕ) → IsText path → found_of path ≡ asked_of path
