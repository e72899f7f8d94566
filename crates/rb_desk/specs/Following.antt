-- Rows that a keeper holds, as they follow one another.
use Rattle.std.specs.Prelude.{◌≡◌, ◌≤◌, ◌<◌, ◌^◌, ℕ, Bool, false, ◌&&◌, ◌||◌, nat_eq, nat_le, ℤ, List, ◌∷◌, length, Contains, Option, Some, None, Result, Ok, Err, IsTrue, if◌then◌else◌}
use Rattle.rb_acl.specs.declared.policy.Caller.{Caller}
use Rattle.rb_acl_doc.specs.declared.fault.AclKind.{AclKind}
use Rattle.rb_acl_doc.specs.declared.fault.AclKind.TheVariants as acl
use Rattle.rb_causes.specs.declared.ending.Ending.{Ending}
use Rattle.rb_causes.specs.declared.row.Row.{Row}
use Rattle.rb_job.specs.declared.fault.JobKind.{JobKind}
use Rattle.rb_job.specs.declared.fault.JobKind.TheVariants as jobs
use Rattle.rb_node.specs.Filters.{IsReadFilter}
use Rattle.rb_node.specs.declared.filter_err.FilterErr.{FilterErr}
use Rattle.rb_node.specs.declared.filter_err.FilterErr.TheVariants as filters
use Rattle.rb_text.specs.declared.pattern_err.PatternErr.{PatternErr}
use Rattle.rb_text.specs.declared.pattern_err.PatternErr.TheVariants as refusal
use Rattle.rb_marks.specs.Results.{same_leaf}
use Rattle.rb_log.specs.Executions.{Execution, execution_among, leaf_of}
use Rattle.rb_log.specs.Readings.{Reading}
use Rattle.rb_log.specs.Rows.{is_opened, is_end, is_close, row_caller, is_clean_caller, ending_of, not_started}
use Rattle.rb_log.specs.Turn.{MayRead, unlimited_turn}
use Rattle.rb_log.specs.declared.answer.Answer.{Answer}
use Rattle.rb_log.specs.declared.answer.Answer.TheVariants as answer
use Rattle.rb_log.specs.LogState.{log_state}
use Rattle.rb_log.specs.Legal.{MayCome, IsAdded, IsFormed, MayAsk, call_named, rights_of}
use Rattle.rb_log.specs.declared.call.Call.{Call}
use Rattle.rb_log.specs.declared.call.Call.TheVariants.{Claim}
use Rattle.rb_log.specs.declared.task.OpenLeaf.{OpenLeaf}
use Rattle.rb_tables.specs.Changes.{Decided}
use Rattle.rb_tables.specs.Tables.{AreLogTables}
use Rattle.rb_tables.specs.declared.tables.Tables.{Tables}
use Rattle.rb_tables.specs.declared.change.Change.{Change}
use Rattle.rb_desk.specs.Opening.{IsBadStore}
use Rattle.rb_desk.specs.declared.open_err.OpenErr.{OpenErr}
use Rattle.rb_desk.specs.declared.open_err.OpenErr.TheVariants.{StoreFault, BadStore, Full, NoMemory}
use Rattle.rb_desk.specs.declared.unfit.Unfit.{Unfit}
use Rattle.rb_desk.specs.declared.unfit.Unfit.TheVariants.{Illegal}
use Rattle.rb_desk.specs.declared.unfit.Unfit.TheVariants as unfit

-- a row was refused: it may not come, or that could not be told
abbrev pub IsUnfit : Type 0 → Unfit → Type 0
IsUnfit may Illegal = may → ⊥
IsUnfit may unfit.NoMemory = Unit {0}

-- What a refused pattern makes of a row that was added once: one that grew too big may have been
-- taken then, and by the rules no other was.
abbrev pub pattern_unfit : PatternErr → Unfit
pattern_unfit refusal.BadPattern = Illegal
pattern_unfit refusal.TooLong = Illegal
pattern_unfit refusal.TooBig = unfit.NoMemory
pattern_unfit refusal.NoMemory = unfit.NoMemory

-- so a policy file that is not read, and so a filter and jobs
abbrev pub policy_unfit : AclKind → Unfit
policy_unfit (acl.BadPattern e) = pattern_unfit e
policy_unfit other = Illegal

abbrev pub filter_unfit : FilterErr → Unfit
filter_unfit (filters.BadPattern e) = pattern_unfit e
filter_unfit filters.NoMemory = unfit.NoMemory
filter_unfit other = Illegal

abbrev pub job_unfit : JobKind → Unfit
job_unfit (jobs.BadPattern e) = pattern_unfit e
job_unfit (jobs.BadFilter e) = filter_unfit e
job_unfit other = Illegal

-- what a row is whose call is answered so without a row
abbrev pub answer_unfit : Answer → Unfit
answer_unfit answer.NoMemory = unfit.NoMemory
answer_unfit (answer.BadPolicy fault) = policy_unfit fault.kind
answer_unfit (answer.BadJobs fault) = job_unfit fault.kind
answer_unfit other = Illegal

-- For what the readers may give, the rules add a row for the call.
pub record AddsRow (past : List Row) (call : Call) : Type 0 where
  pub reading : Reading
  pub may_read : MayRead (log_state past) call reading
  pub row : Row
  pub added : (unlimited_turn reading (log_state past) call).row ≡ Some row

-- what the rules add for a call, or why they add nothing
abbrev pub Turns : List Row → Call → Result Change Unfit → Type 0
Turns past call (Ok change) = Decided past call (Ok change)
Turns past call (Err unfit) = IsUnfit (AddsRow past call) unfit

-- a claim of the worker of this number, where there is such a one
pub record IsClaimFor (past : List Row) (worker : ℕ) (at : ℤ) (change : Change) : Type 0 where
  pub may : Contains (rights_of (log_state past)).workers worker
  pub decided : Decided past (Claim worker at) (Ok change)

-- That there is such a worker, and that the rules add a row for its claim.
pub record AddsClaim (past : List Row) (worker : ℕ) (at : ℤ) : Type 0 where
  pub has : Contains (rights_of (log_state past)).workers worker
  pub adds : AddsRow past (Claim worker at)

abbrev pub ClaimsFor : List Row → ℕ → ℤ → Result Change Unfit → Type 0
ClaimsFor past worker at (Ok change) = IsClaimFor past worker at change
ClaimsFor past worker at (Err unfit) = IsUnfit (AddsClaim past worker at) unfit

-- the caller of a row, where a row can hold it
abbrev pub IsCallerIn : Row → Result Caller Unfit → Type 0
IsCallerIn row (Ok caller) = (caller ≡ row_caller row) × IsTrue (is_clean_caller caller)
IsCallerIn row (Err unfit) = IsUnfit (IsTrue (is_clean_caller (row_caller row))) unfit

-- this filter, read with each of its patterns
abbrev pub IsFilterIn : Option (List ℕ) → Result (Option (List ℕ)) Unfit → Type 0
IsFilterIn text (Ok filter) = (filter ≡ text) × IsReadFilter text
IsFilterIn text (Err unfit) = IsUnfit (IsReadFilter text) unfit

-- The row may come, and the tables are those of the log with it.
pub record HasFollowed (past : List Row) (row : Row) (t : Tables) : Type 0 where
  pub may : MayCome (log_state past) row
  pub says : AreLogTables t (log_state (row ∷ past))

-- no row has come
abbrev pub is_empty : List Row → Bool
is_empty past = nat_eq (length past) 0

-- the row has to be an opening: it is one, or none has come before it
abbrev pub is_first : List Row → Row → Bool
is_first past row = is_opened row || is_empty past

-- 1 to 16 doors, 1 to 64 workers, and a number for draws
pub record HasBounds (row : Row) : Type 0 where
  pub doors : (1 ≤ row.a) × (row.a ≤ 16)
  pub workers : (1 ≤ row.b) × (row.b ≤ 64)
  pub draw : row.c < 2 ^ 63

-- the ending of this number, if there is one
abbrev pub ending_if : ℕ → Option Ending
ending_if n = if nat_le n not_started then Some (ending_of n) else None

-- it is the leaf of this number of its execution
abbrev pub has_leaf_number : ℕ → OpenLeaf → Option Execution → Bool
has_leaf_number n claimed None = false
has_leaf_number n claimed (Some e) = same_leaf claimed.leaf (leaf_of e n)

-- it is the leaf of this number of the execution of this number
abbrev pub has_numbers : List Execution → ℕ → ℕ → OpenLeaf → Bool
has_numbers es number n claimed =
    nat_eq claimed.execution number
    && has_leaf_number n claimed (execution_among claimed.execution es)

-- The row is neither an opening nor the end of a leaf or of a door.
pub record IsOther (past : List Row) (row : Row) : Type 0 where
  pub opened : is_first past row ≡ false
  pub ended : is_end row ≡ false
  pub closed : is_close row ≡ false

-- The call that a row names may be made, and this is what the rules add for it.
pub record IsNamedChange (past : List Row) (row : Row) (change : Change) : Type 0 where
  pub call : Call
  pub named : call_named (log_state past) row ≡ Some call
  pub may : MayAsk (rights_of (log_state past)) call
  pub formed : IsFormed call
  pub decided : Decided past call (Ok change)

-- the rules add the row for the call that it names
abbrev pub IsNamed : List Row → Row → Type 0
IsNamed past row = IsAdded (log_state past) row (call_named (log_state past) row)

-- so is the row named, or refused
abbrev pub Names : List Row → Row → Result Change Unfit → Type 0
Names past row (Ok change) = IsNamedChange past row change
Names past row (Err unfit) = IsUnfit (IsNamed past row) unfit

-- so has it followed, or is refused
abbrev pub Follows : {A : Type 0} → List Row → Row → Tables → Result A Unfit → Type 0
Follows past row t (Ok a) = HasFollowed past row t
Follows past row t (Err unfit) = IsUnfit (MayCome (log_state past) row) unfit

-- why rows are not opened: one of them may not come, or memory was wanting
abbrev pub AreRefused : List Row → OpenErr → Type 0
AreRefused rows StoreFault = ⊥
AreRefused rows (BadStore n) = IsBadStore rows n
AreRefused rows Full = ⊥
AreRefused rows NoMemory = Unit {0}
