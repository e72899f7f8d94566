-- What the rules add for the call that a row names.
use Rattle.std.proofs.Common.{◌≡◌, ◌∙◌, ◌≤◌, ◌<◌, ℕ, ℤ, List, true, false, nat_eq, Option, Some, None, is_some, Result, Ok, Err, IsErrAnd, pos, negsuc, SFits, to_z, of_z, w64, ap, sym, subst, refl, arith}
use Rattle.std.proofs.Math.Facts.{to_z-of_z}
use Rattle.std.proofs.lemmas.Int.{ints}
use Rattle.std.proofs.lemmas.Bool.{false≢true, lt-ltb, ltb-true}
use Rattle.rb_causes.specs.Moments.{IsMoment}
use Rattle.rb_causes.specs.declared.row.Row.{Row}
use Rattle.rb_plan.specs.declared.world.RunAsk.{RunAsk}
use Rattle.rb_log.specs.Asks.{ask_of}
use Rattle.rb_log.specs.LogState.{LogState, log_state}
use Rattle.rb_log.specs.Legal.{Adds, IsAdded, IsFormed, MayAsk, call_named, is_checked, rights_of, run_named}
use Rattle.rb_log.proofs.EndLaws.{call_by, kind_is, named_by}
use Rattle.rb_log.specs.Rows.{zone_kind, nodes_kind, jobs_kind, policy_kind, accept_kind, skipped_kind, abort_kind, begin_kind, withdraw_kind, is_zone, is_nodes, is_jobs, is_policy, is_accept, is_skipped, is_abort, is_begin, is_withdraw, row_caller}
use Rattle.rb_log.specs.declared.call.Call.{Call}
use Rattle.rb_log.specs.declared.call.Call.TheVariants.{ImportZone, ImportNodes, ImportPolicy, ImportJobs, Run, Abort, Tick, Claim}
use Rattle.rb_runs.specs.Naming.{IsAskIn, ask_as, asks_of}
use Rattle.rb_runs.specs.declared.naming.AskedOf.{AskedOf}
use Rattle.rb_log.specs.declared.answer.Answer.{Answer}
use Rattle.rb_tables.specs.Changes.{Decided}
use Rattle.rb_tables.specs.Tables.{IsTabled}
use Rattle.rb_tables.specs.declared.change.Change.{Change}
use Rattle.rb_tables.specs.declared.tables.Tables.{Tables}
use Rattle.rb_desk.proofs.Askable.{is_worker, worker_is}
use Rattle.rb_desk.specs.Following.{AddsRow, AddsClaim, ClaimsFor, IsNamed, IsUnfit, Names, Turns}
use Rattle.rb_desk.specs.declared.unfit.Unfit.{Unfit}
use Rattle.rb_desk.specs.declared.unfit.Unfit.TheVariants.{Illegal}
use Rattle.rb_desk.specs.declared.unfit.Unfit.TheVariants as unfit

-- what has to hold of it fails
pub unfit_less : (may can : Type 0) (u : Unfit) → (may → can) → IsUnfit can u → IsUnfit may u
unfit_less may can Illegal f h = λ m. h (f m)
unfit_less may can unfit.NoMemory f h = tt

-- ---- the call that a row names

adds_named : (past : List Row) (row : Row) (call : Call)
    → call_named (log_state past) row ≡ Some call → IsNamed past row
    → Adds (log_state past) row call
adds_named past row call named is = subst (IsAdded (log_state past) row) named is

adds_row : (past : List Row) (row : Row) (call : Call) → Adds (log_state past) row call
    → AddsRow past call
adds_row past row call adds = record {
  reading = adds.reading;
  may_read = adds.may_read;
  row = row;
  added = adds.added;
}

pub names_by : (past : List Row) (row : Row) (call : Call) (result : Result Change Unfit)
    → call_named (log_state past) row ≡ Some call → MayAsk (rights_of (log_state past)) call
    → IsFormed call → Turns past call result → Names past row result
names_by past row call (Ok change) named may formed decided = record {
  call = call;
  named = named;
  may = may;
  formed = formed;
  decided = decided;
}
names_by past row call (Err u) named may formed turns =
    unfit_less (IsNamed past row) (AddsRow past call) u
    (λ is. adds_row past row call (adds_named past row call named is)) turns

-- what is handed on
pub handed_on : (past : List Row) (row : Row) (r : Result Change Unfit) (u : Unfit)
    → IsErrAnd r (λ x. x ≡ u) → Names past row (Err u) → Names past row r
handed_on past row (Ok change) u h is = absurd h
handed_on past row (Err x) u h is = subst (λ y. Names past row (Err y)) (sym h) is

-- a row whose call asks for more than there is
pub unnamed : (past : List Row) (row : Row) (call : Call) (more : Type 0) (u : Unfit)
    → call_named (log_state past) row ≡ Some call
    → (MayAsk (rights_of (log_state past)) call → IsFormed call → more) → IsUnfit more u
    → Names past row (Err u)
unnamed past row call more u named asks h =
    unfit_less (IsNamed past row) more u
    (λ is. let adds = adds_named past row call named is in asks adds.asked adds.formed) h

-- ---- the moment of a row

moment_fits : (at : ℤ) → IsMoment at → SFits w64 at
moment_fits (pos n) h = record { sfits = omega (arith, ints, h.1) }
moment_fits (negsuc n) h = absurd (omega (arith, ints, h.0))

-- it is read out of its signed number as it is
pub moment_kept : (at : ℤ) → IsMoment at → to_z w64 (of_z w64 at) ≡ at
moment_kept at h = to_z-of_z (moment_fits at h)

pub decided_then : (past : List Row) (call : ℤ → Call) (at : ℤ) (decided : Result Change Answer)
    → SFits w64 at → Decided past (call (to_z w64 (of_z w64 at))) decided
    → Decided past (call at) decided
decided_then past call at decided fits rules =
    subst (λ moment. Decided past (call moment) decided) (to_z-of_z fits) rules

pub decided_now : (past : List Row) (call : ℤ → Call) (at : ℤ) (decided : Result Change Answer)
    → IsMoment at → Decided past (call (to_z w64 (of_z w64 at))) decided
    → Decided past (call at) decided
decided_now past call at decided moment =
    decided_then past call at decided (moment_fits at moment)

-- ---- by the row's kind

of_kind : (s : LogState) (row : Row) (kind : ℕ) → nat_eq row.kind kind ≡ true
    → call_named s row ≡ call_by s row kind
of_kind s row kind h = named_by s row kind (kind_is row kind h)

pub zone_named : (s : LogState) (row : Row) → is_zone row ≡ true
    → call_named s row ≡ Some (ImportZone row.name row.body row.at)
zone_named s row h = of_kind s row zone_kind h

pub nodes_named : (s : LogState) (row : Row) → is_nodes row ≡ true
    → call_named s row ≡ Some (ImportNodes row.name row.body row.at)
nodes_named s row h = of_kind s row nodes_kind h

pub jobs_named : (s : LogState) (row : Row) → is_jobs row ≡ true
    → call_named s row
    ≡ Some (ImportJobs (row_caller row) (is_checked row) row.name row.body row.at)
jobs_named s row h = of_kind s row jobs_kind h

pub policy_named : (s : LogState) (row : Row) → is_policy row ≡ true
    → call_named s row
    ≡ Some (ImportPolicy (row_caller row) (is_checked row) row.name row.body row.at)
policy_named s row h = of_kind s row policy_kind h

pub accept_named : (s : LogState) (row : Row) → is_accept row ≡ true
    → call_named s row ≡ run_named row (ask_of row.name row.body)
accept_named s row h = of_kind s row accept_kind h

pub skipped_named : (s : LogState) (row : Row) → is_skipped row ≡ true
    → call_named s row ≡ Some (Tick row.at)
skipped_named s row h = of_kind s row skipped_kind h

pub abort_named : (s : LogState) (row : Row) → is_abort row ≡ true
    → call_named s row ≡ Some (Abort (row_caller row) row.a row.at)
abort_named s row h = of_kind s row abort_kind h

pub begin_named : (s : LogState) (row : Row) → is_begin row ≡ true
    → call_named s row ≡ Some (Claim row.c row.at)
begin_named s row h = of_kind s row begin_kind h

pub withdraw_named : (s : LogState) (row : Row) → is_withdraw row ≡ true
    → call_named s row ≡ Some (Claim 0 row.at)
withdraw_named s row h = of_kind s row withdraw_kind h

-- ---- what was asked of a run

asked_named : (s : LogState) (row : Row) (asked : Option AskedOf) → is_accept row ≡ true
    → IsAskIn row.body asked → call_named s row ≡ run_named row (asks_of row.name asked)
asked_named s row asked is asks =
    accept_named s row is ∙ ap (run_named row) (sym (asks row.name))

due_run : (row : Row) (ask : RunAsk) (due : Option ℕ) → is_some due ≡ true
    → run_named row (Some (ask, due)) ≡ Some (Tick row.at)
due_run row ask None h = absurd (false≢true h)
due_run row ask (Some instant) h = refl

caller_run : (row : Row) (ask : RunAsk) (due : Option ℕ) → is_some due ≡ false
    → run_named row (Some (ask, due)) ≡ Some (Run (row_caller row) ask row.at)
caller_run row ask None h = refl
caller_run row ask (Some instant) h = absurd (false≢true (sym h))

pub due_named : (s : LogState) (row : Row) (a : AskedOf) → is_accept row ≡ true
    → IsAskIn row.body (Some a) → is_some a.due ≡ true → call_named s row ≡ Some (Tick row.at)
due_named s row a is asks due =
    asked_named s row (Some a) is asks ∙ due_run row (ask_as row.name a).0 a.due due

pub caller_named : (s : LogState) (row : Row) (a : AskedOf) → is_accept row ≡ true
    → IsAskIn row.body (Some a) → is_some a.due ≡ false
    → call_named s row ≡ Some (Run (row_caller row) (ask_as row.name a).0 row.at)
caller_named s row a is asks due =
    asked_named s row (Some a) is asks ∙ caller_run row (ask_as row.name a).0 a.due due

-- ---- claims

pub no_worker : (past : List Row) (t : Tables) (worker : ℕ) (at : ℤ) → IsTabled t past
    → t.workers ≤ worker → AddsClaim past worker at → ⊥
no_worker past t worker at tabled high added =
    let there = is_worker (log_state past).workers worker added.has in
    let low : worker < (log_state past).workers =
    ltb-true worker (log_state past).workers there in
    absurd (omega (arith, low, high, tabled.says.workers))

pub claims_for : (past : List Row) (t : Tables) (worker : ℕ) (at : ℤ)
    (result : Result Change Unfit) → IsTabled t past → worker < t.workers
    → Turns past (Claim worker at) result → ClaimsFor past worker at result
claims_for past t worker at (Ok change) tabled low turns = record {
  may = worker_is (log_state past).workers worker
      (lt-ltb worker (log_state past).workers (subst (λ n. worker < n) tabled.says.workers low));
  decided = turns;
}
claims_for past t worker at (Err u) tabled low turns =
    unfit_less (AddsClaim past worker at) (AddsRow past (Claim worker at)) u (λ a. a.adds) turns

pub claim_named : (past : List Row) (row : Row) (worker : ℕ) (result : Result Change Unfit)
    → call_named (log_state past) row ≡ Some (Claim worker row.at) → IsMoment row.at
    → ClaimsFor past worker row.at result → Names past row result
claim_named past row worker (Ok change) named at is = record {
  call = Claim worker row.at;
  named = named;
  may = (at, is.may);
  formed = tt;
  decided = is.decided;
}
claim_named past row worker (Err u) named at is =
    unfit_less (IsNamed past row) (AddsClaim past worker row.at) u
    (λ added. let adds = adds_named past row (Claim worker row.at) named added in record {
      has = adds.asked.1;
      adds = adds_row past row (Claim worker row.at) adds;
    }) is
