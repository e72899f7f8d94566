-- The routes, and what a path says by its route.
use Rattle.std.specs.Prelude.{ℕ, Bool, false, ◌&&◌, nat_eq, nat_le, List, [], ◌∷◌, codes, Option, Some, None, option_map, bytes_eq, if◌then◌else◌}
use Rattle.std.specs.List.{list_any}
use Rattle.std.specs.Option.{option_or}
use Rattle.rb_causes.specs.Numbers.{decimal_of}
use Rattle.rb_causes.specs.Signs.{slash, opening_brace}
use Rattle.rb_causes.specs.Texts.{is_empty, pieces}
use Rattle.rb_route.specs.declared.route.Route.{Route}
use Rattle.rb_route.specs.declared.route.Route.TheVariants.{Run, Execution, State, Abort, Jobs, ImportJobs, Resources, Executions, ImportPolicy}

-- ---- the table

-- a route with its pattern, as `matchit` takes one
pub record Pattern : Type 0 where
  pub text : List ℕ
  pub route : Route

abbrev pub pattern : List ℕ → Route → Pattern
pattern text route = record { text = text; route = route }

-- In each pattern the first braces are the version, and the second what is spoken of: the id of a
-- job, the number of an execution, a project or a policy file.
abbrev pub patterns : List Pattern
patterns =
    pattern (codes "/api/{version}/job/{id}/run") Run
    ∷ pattern (codes "/api/{version}/execution/{number}") Execution
    ∷ pattern (codes "/api/{version}/execution/{number}/state") State
    ∷ pattern (codes "/api/{version}/execution/{number}/abort") Abort
    ∷ pattern (codes "/api/{version}/project/{project}/jobs") Jobs
    ∷ pattern (codes "/api/{version}/project/{project}/jobs/import") ImportJobs
    ∷ pattern (codes "/api/{version}/project/{project}/resources") Resources
    ∷ pattern (codes "/api/{version}/project/{project}/executions") Executions
    ∷ pattern (codes "/api/{version}/system/acl/{name}") ImportPolicy
    ∷ []

abbrev pub get : List ℕ
get = codes "GET"

abbrev pub post : List ℕ
post = codes "POST"

abbrev pub methods_of : Route → List (List ℕ)
methods_of Run = post ∷ []
methods_of Execution = get ∷ []
methods_of State = get ∷ []
methods_of Abort = get ∷ post ∷ []
methods_of Jobs = get ∷ []
methods_of ImportJobs = post ∷ []
methods_of Resources = get ∷ []
methods_of Executions = get ∷ []
methods_of ImportPolicy = post ∷ []

abbrev pub takes_method : Route → List ℕ → Bool
takes_method route method = list_any (bytes_eq method) (methods_of route)

-- ---- the route of a path

-- the pieces between slashes
abbrev pub path_pieces : List ℕ → List (List ℕ)
path_pieces text = pieces (λ b. nat_eq b slash) text

-- a piece of a pattern that stands in braces
abbrev pub is_open : List ℕ → Bool
is_open [] = false
is_open (b ∷ bs) = nat_eq b opening_brace

abbrev pub part_onto : List ℕ → Option (List (List ℕ)) → Option (List (List ℕ))
part_onto part parts = if is_empty part then None else option_map (λ ps. part ∷ ps) parts

-- What a path says in the places of the braces of a pattern, if it has the pattern's form: as many
-- pieces, something where the pattern has braces, and else the same.
abbrev pub parts_of : List (List ℕ) → List (List ℕ) → Option (List (List ℕ))
parts_of [] [] = Some []
parts_of [] (piece ∷ pieces) = None
parts_of (word ∷ words) [] = None
parts_of (word ∷ words) (piece ∷ pieces) =
    if is_open word then part_onto piece (parts_of words pieces)
    else if bytes_eq word piece then parts_of words pieces
    else None

-- what a path asks for: its route, the version, and of what it speaks
pub record Asked : Type 0 where
  pub route : Route
  pub version : List ℕ
  pub subject : List ℕ

abbrev pub asked_at : Route → List ℕ → List ℕ → Asked
asked_at route version subject =
    record { route = route; version = version; subject = subject }

abbrev pub asked_with : Route → Option (List (List ℕ)) → Option Asked
asked_with route (Some (version ∷ subject ∷ [])) = Some (asked_at route version subject)
asked_with route other = None

abbrev pub asked_by : List (List ℕ) → Pattern → Option Asked
asked_by path pattern = asked_with pattern.route (parts_of (path_pieces pattern.text) path)

abbrev pub asked_among : List (List ℕ) → List Pattern → Option Asked
asked_among path [] = None
asked_among path (p ∷ ps) = option_or (asked_by path p) (asked_among path ps)

-- what a path asks for, if it has a route
abbrev pub asked_of : List ℕ → Option Asked
asked_of path = asked_among (path_pieces path) patterns

-- ---- versions

abbrev pub is_within : ℕ → ℕ → Option ℕ → Bool
is_within least most None = false
is_within least most (Some n) = nat_le least n && nat_le n most

-- a decimal from 24 to 34
abbrev pub is_version : List ℕ → Bool
is_version text = is_within 24 34 (decimal_of text)
