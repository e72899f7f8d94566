-- What the steps towards a call give: what a chain of checks gives, or want of memory.
use Rattle.std.specs.Prelude.{◌≡◌, ◌≢◌, ℕ, ℤ, Bool, true, List, Option, Result, Ok, Err}
use Rattle.rb_acl.specs.declared.policy.Caller.{Caller}
use Rattle.rb_log.specs.Legal.{IsFormed}
use Rattle.rb_log.specs.declared.call.Call.{Call}
use Rattle.rb_log.specs.declared.call.Look.{Look}
use Rattle.rb_node.specs.Filters.{IsReadFilter}
use Rattle.rb_query.specs.Queries.{query_fault, query_pairs}
use Rattle.rb_route.specs.declared.route.Route.TheVariants.{Executions, ImportJobs}
use Rattle.rb_wire.specs.declared.heard.Request.{Request}
use Rattle.rb_yaml.specs.Faults.{◌>>=◌}
use Rattle.rb_api.specs.Calls.{import_jobs_call, page_asked, without_fault, IsRefused, HasRefusedFilter}
use Rattle.rb_api.specs.declared.request_fault.RequestFault.{RequestFault}
use Rattle.rb_api.specs.declared.request_fault.RequestFault.TheVariants.{BadFilter}
use Rattle.rb_api.specs.declared.request_fault.Unasked.{Unasked}
use Rattle.rb_api.specs.declared.request_fault.Unasked.TheVariants.{Fault, NoMemory}

-- a page of executions, as its query asks for it
abbrev pub page_of : List ℕ → List ℕ → Result Look RequestFault
page_of project query =
    without_fault (query_fault Executions query) >>= λ read.
    Ok (page_asked project (query_pairs query))

-- an import of jobs, as its query and its body ask for it
abbrev pub jobs_call_of : Caller → List ℕ → Request → ℤ → Result Call RequestFault
jobs_call_of caller project request at =
    without_fault (query_fault ImportJobs request.query) >>= λ read.
    import_jobs_call caller project request.body at

-- The step gives what the chain gives, where that is not refused for its filter.
abbrev pub Gives : {A : Type 0} → Result A RequestFault → Result A Unasked → Type 0
Gives chain (Ok x) = chain ≡ Ok x
Gives chain (Err (Fault f)) = (chain ≡ Err f) × (f ≢ BadFilter)
Gives chain (Err NoMemory) = Unit {0}

-- A check holds, or its fault is told.
abbrev pub Demands : Result Bool RequestFault → Result (Unit {0}) Unasked → Type 0
Demands chain (Ok u) = chain ≡ Ok true
Demands chain (Err (Fault f)) = (chain ≡ Err f) × (f ≢ BadFilter)
Demands chain (Err NoMemory) = Unit {0}

-- A filter is the one that is asked for and is read, or it is refused.
abbrev pub Filters : Option (List ℕ) → Result (Option (List ℕ)) Unasked → Type 0
Filters asked (Ok filter) = (filter ≡ asked) × IsReadFilter filter
Filters asked (Err (Fault f)) = (f ≡ BadFilter) × IsRefused asked
Filters asked (Err NoMemory) = Unit {0}

-- The call that a chain comes to, or its fault; its filter is looked at last.
abbrev pub Calls : Result Call RequestFault → Result Call Unasked → Type 0
Calls chain (Ok c) = (chain ≡ Ok c) × IsFormed c
Calls chain (Err (Fault BadFilter)) = (c : Call) × (chain ≡ Ok c) × HasRefusedFilter c
Calls chain (Err (Fault f)) = chain ≡ Err f
Calls chain (Err NoMemory) = Unit {0}
