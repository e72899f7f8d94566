-- The queries of a request.
use Rattle.std.specs.Prelude.{ℕ, Bool, false, not, List, [], ◌∷◌, map, find, codes, Option, Some, None, option_map, is_some, bytes_eq, unwrap_or, if◌then◌else◌}
use Rattle.std.specs.Option.{option_and_then, option_or}
use Rattle.std.specs.Str.Lossy.{utf8_lossy}
use Rattle.form_urlencoded.specs.Form.{raw_pairs, decode}
use Rattle.rb_causes.specs.Numbers.{decimal_of}
use Rattle.rb_causes.specs.declared.items.Prop.{Prop}
use Rattle.rb_marks.specs.declared.mark.Status.{Status}
use Rattle.rb_route.specs.Routes.{is_within}
use Rattle.rb_query.specs.Statuses.{status_named}
use Rattle.rb_query.specs.declared.query.Query.{Query}
use Rattle.rb_query.specs.declared.query.Query.TheVariants.{Max, Offset, StatusFilter, FileFormat, DupeOption, UuidOption}
use Rattle.rb_route.specs.declared.route.Route.{Route}
use Rattle.rb_route.specs.declared.route.Route.TheVariants.{Run, Execution, State, Abort, Jobs, ImportJobs, Resources, Executions, ImportPolicy}

-- ---- names and values

abbrev pub query_name : Query → List ℕ
query_name Max = codes "max"
query_name Offset = codes "offset"
query_name StatusFilter = codes "statusFilter"
query_name FileFormat = codes "fileformat"
query_name DupeOption = codes "dupeOption"
query_name UuidOption = codes "uuidOption"

-- a value that is read
abbrev pub is_read : Query → List ℕ → Bool
is_read Max value = is_within 0 1000 (decimal_of value)
is_read Offset value = is_some (decimal_of value)
is_read StatusFilter value = is_some (status_named value)
is_read FileFormat value = bytes_eq value (codes "yaml")
is_read DupeOption value = bytes_eq value (codes "update")
is_read UuidOption value = bytes_eq value (codes "preserve")

-- the queries of a route; it passes over all others
abbrev pub queries_of : Route → List Query
queries_of Executions = Max ∷ Offset ∷ StatusFilter ∷ []
queries_of ImportJobs = FileFormat ∷ DupeOption ∷ UuidOption ∷ []
queries_of Run = []
queries_of Execution = []
queries_of State = []
queries_of Abort = []
queries_of Jobs = []
queries_of Resources = []
queries_of ImportPolicy = []

-- ---- as they are written

-- as a form writes texts: decoded, and what is then no text is replaced
abbrev pub form_text : List ℕ → List ℕ
form_text bytes = utf8_lossy (decode bytes)

abbrev pub form_pair : List ℕ × List ℕ → Prop
form_pair pair = record { key = form_text pair.0; text = form_text pair.1 }

-- the names and values of a query
abbrev pub query_pairs : List ℕ → List Prop
query_pairs query = map form_pair (raw_pairs query)

-- the value of the first pair of this name
abbrev pub value_of : Query → List Prop → Option (List ℕ)
value_of query pairs =
    option_map (λ p. p.text) (find (λ p. bytes_eq p.key (query_name query)) pairs)

-- ---- faults

abbrev pub is_unread : Query → Option (List ℕ) → Bool
is_unread query None = false
is_unread query (Some value) = not (is_read query value)

-- it is there, and its value is not read
abbrev pub is_faulty : List Prop → Query → Bool
is_faulty pairs query = is_unread query (value_of query pairs)

-- the query of this name
abbrev pub named_among : List Query → List ℕ → Option Query
named_among queries name = find (λ q. bytes_eq name (query_name q)) queries

-- the query, if it is one and is faulty
abbrev pub if_faulty : List Prop → Option Query → Option Query
if_faulty pairs None = None
if_faulty pairs (Some query) = if is_faulty pairs query then Some query else None

-- the first of these pairs that names a faulty query of the route; `all` are the pairs of the
-- request
abbrev pub first_faulty : Route → List Prop → List Prop → Option Query
first_faulty route all [] = None
first_faulty route all (p ∷ ps) =
    option_or (if_faulty all (named_among (queries_of route) p.key)) (first_faulty route all ps)

abbrev pub query_fault : Route → List ℕ → Option Query
query_fault route query = first_faulty route (query_pairs query) (query_pairs query)

-- ---- what is read of them

-- a number, or this one where the query is not there
abbrev pub number_or : ℕ → Option (List ℕ) → ℕ
number_or default value = unwrap_or (option_and_then decimal_of value) default

abbrev pub status_asked : List Prop → Option Status
status_asked pairs = option_and_then status_named (value_of StatusFilter pairs)
