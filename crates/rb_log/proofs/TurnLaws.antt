-- The row that a turn adds may come: it names a call, and the rules add it for that.
use Rattle.std.proofs.Common.{unwrap_or, Result, Ok, Err, codes, not, ◌≡◌, ◌∙◌, ◌⊎◌, inl, inr, ◌<◌, ◌+◌, ℕ, ℤ, int_lt, List, [], ◌∷◌, length, map, Bool, true, false, nat_eq, Option, Some, None, is_some, ap, sym, subst, refl, arith, if◌then◌else◌, Contains}
use Rattle.std.specs.List.{list_any}
use Rattle.std.proofs.lemmas.Bool.{or_from}
use Rattle.rb_causes.specs.Moments.{IsMoment}
use Rattle.rb_causes.specs.declared.row.Row.{Row}
use Rattle.rb_yaml.specs.Documents.{docs_of}
use Rattle.rb_yaml.specs.Faults.{◌>>=◌}
use Rattle.rb_inventory.specs.Inventories.{inventory_of}
use Rattle.rb_acl.specs.declared.policy.Caller.{Caller}
use Rattle.rb_marks.specs.First.{first_startable, stops}
use Rattle.rb_marks.specs.declared.mark.Leaf.{Leaf}
use Rattle.rb_cron.specs.ZoneRules.{is_rule}
use Rattle.rb_plan.specs.declared.accepted.Dropped.{Dropped}
use Rattle.rb_log.specs.Readings.{Reading}
use Rattle.rb_log.specs.Rows.{is_opened, begin_row, withdraw_row, close_row, abort_row, zone_row, nodes_row, policy_row, jobs_row, flag, is_clean_caller}
use Rattle.rb_log.specs.World.{latest_of, job_id, latest_nodes}
use Rattle.rb_log.specs.Executions.{Execution, is_running}
use Rattle.rb_log.specs.LogState.{LogState, log_state, nodes_number, running_executions, moment, moment_by, last_at, has_room}
use Rattle.rb_log.specs.Moves.{Moved, only, must, read_as, moved_or, access_in, is_name, has_body, limited, limited_by, full_unless}
use Rattle.rb_log.specs.Claims.{claim, claimed, taken, refused_again, claim_among, is_closed}
use Rattle.rb_log.specs.Runs.{known, may_act_on, abort}
use Rattle.rb_log.specs.Imports.{imported, import_zone, import_nodes, import_policy, import_jobs, imported_job, changes_any, if_checked, may_import_policies, may_import_jobs, has_place_for_file, ids_free, names_free}
use Rattle.rb_log.specs.Sums.{numbers_below}
use Rattle.rb_log.specs.Turn.{MayRead}
use Rattle.rb_log.specs.Legal.{rights_of, Adds, IsAdded, ComesBy, IsLegalLog, call_named}
use Rattle.rb_log.specs.declared.answer.Answer.{Answer}
use Rattle.rb_log.specs.declared.answer.Answer.TheVariants as answer
use Rattle.rb_log.specs.declared.answer.ImportedJob.{ImportedJob}
use Rattle.rb_log.specs.declared.call.Call.{Call}
use Rattle.rb_log.specs.declared.call.Call.TheVariants as call
use Rattle.rb_log.proofs.Numbers.{below_length, below_at}
use Rattle.rb_log.proofs.RowLaws.{caller_is_kept}

-- ---- moments

if_same : (b : Bool) (at : ℤ) → (if b then at else at) ≡ at
if_same true at = refl
if_same false at = refl

moment_twice_if : (last at : ℤ) (b : Bool) → int_lt at last ≡ b
    → moment_by (Some last) (if b then last else at) ≡ (if b then last else at)
moment_twice_if last at true h = if_same (int_lt last last) last
moment_twice_if last at false h = ap (λ b. if b then last else at) h

moment_by_twice : (last : Option ℤ) (at : ℤ) →
    moment_by last (moment_by last at) ≡ moment_by last at
moment_by_twice None at = refl
moment_by_twice (Some last) at = moment_twice_if last at (int_lt at last) refl

pub moment_twice : (s : LogState) (at : ℤ) → moment s (moment s at) ≡ moment s at
moment_twice s at = moment_by_twice s.last at

abbrev IsLastMoment : Option ℤ → Type 0
IsLastMoment None = Unit {0}
IsLastMoment (Some at) = IsMoment at

pub last_is_moment : (past : List Row) → IsLegalLog past → IsLastMoment (last_at past)
last_is_moment [] h = tt
last_is_moment (row ∷ past) h = h.1.0

if_moment : (b : Bool) (a c : ℤ) → IsMoment a → IsMoment c → IsMoment (if b then a else c)
if_moment true a c h k = h
if_moment false a c h k = k

by_moment : (last : Option ℤ) (at : ℤ) → IsLastMoment last → IsMoment at
    → IsMoment (moment_by last at)
by_moment None at h k = k
by_moment (Some last) at h k = if_moment (int_lt at last) last at h k

pub moment_is : (past : List Row) (at : ℤ) → IsLegalLog past → IsMoment at
    → IsMoment (moment (log_state past) at)
moment_is past at h k = by_moment (last_at past) at (last_is_moment past h) k

-- ---- the limit of room takes rows away and adds none

full_row : (b : Bool) (m : Moved) (row : Row) → (full_unless b m).row ≡ Some row
    → m.row ≡ Some row
full_row true m row h = h
full_row false m row h = grind (arith, h)

limited_by_row : (s : LogState) (room : ℕ) (m : Moved) (r : Option Row) (n : Option ℕ) (row : Row)
    → (limited_by s room m r n).row ≡ Some row → m.row ≡ Some row
limited_by_row s room m (Some r) (Some n) row h = full_row (has_room s room n r) m row h
limited_by_row s room m (Some r) None row h = h
limited_by_row s room m None n row h = h

pub limited_row : (s : LogState) (room : ℕ) (m : Moved) (row : Row)
    → (limited s room m).row ≡ Some row → m.row ≡ Some row
limited_row s room m row h = limited_by_row s room m m.row m.need row h

-- ---- a row behind an opened log

pub not_none : (n : ℕ) → 0 < n → nat_eq n 0 ≡ false
not_none n h = grind (arith, h)

-- a row that names a call for which the rules add it
pub comes : (past : List Row) (row : Row) (c : Call) → IsLegalLog past → 0 < length past
    → is_opened row ≡ false → IsMoment row.at → call_named (log_state past) row ≡ Some c
    → Adds (log_state past) row c → IsLegalLog (row ∷ past)
comes past row c legal some kind now named adds = (
  legal,
  (
    now,
    subst (λ first. ComesBy first (log_state past) row)
        (sym (or_from (is_opened row) (nat_eq (length past) 0) kind (not_none (length past) some)))
        (subst (IsAdded (log_state past) row) (sym named) adds),
  ),
)

-- ---- the rows that calls add

pub bind_row : {A : Type 0} (r : Result A Answer) (f : A → Result Moved Answer) (row : Row)
    → (moved_or (r >>= f)).row ≡ Some row
    → (x : A) × (r ≡ Ok x) × ((moved_or (f x)).row ≡ Some row)
bind_row (Ok x) f row h = (x, refl, h)
bind_row (Err a) f row h = absurd (grind (arith, h))

-- the row of an import has one number or another
imported_row : (b : Bool) (k : ℕ) (jobs : List ImportedJob) (make : ℕ → Row) (row : Row)
    → (imported b k jobs make).row ≡ Some row → (n : ℕ) × (row ≡ make n)
imported_row true k jobs make row h = (k + 1, sym (ap (λ o. unwrap_or o row) h))
imported_row false k jobs make row h = absurd (grind (arith, h))

pub zone_row_is : (s : LogState) (now : ℤ) (zone rule : List ℕ) (row : Row)
    → (import_zone s now zone rule).row ≡ Some row
    → (n : ℕ) × (row ≡ zone_row now n zone rule)
zone_row_is s now zone rule row h =
    let a = bind_row (must (is_rule rule) answer.BadZone) _ row h in
    imported_row (not (has_body rule (latest_of zone s.zones))) s.zones_number []
    (λ n. zone_row now n zone rule) row a.2

pub nodes_row_is : (s : LogState) (now : ℤ) (project body : List ℕ) (row : Row)
    → (import_nodes s now project body).row ≡ Some row
    → (n : ℕ) × (row ≡ nodes_row now n project body)
nodes_row_is s now project body row h =
    let a = bind_row (must (is_name project) answer.BadName) _ row h in
    let b = bind_row (read_as answer.BadYaml (docs_of body)) _ row a.2 in
    let c = bind_row (read_as answer.BadNodes (inventory_of b.0)) _ row b.2 in
    imported_row (not (has_body body (latest_nodes project s.projects))) (nodes_number s project) []
    (λ n. nodes_row now n project body) row c.2

pub policy_row_is : (reading : Reading) (s : LogState) (now : ℤ) (caller : Caller) (checked : Bool)
    (name body : List ℕ) (row : Row)
    → (import_policy reading s now caller checked name body).row ≡ Some row
    → (n : ℕ) × (row ≡ policy_row now n checked name caller body)
policy_row_is reading s now caller checked name body row h =
    let a = bind_row (must (is_name name) answer.BadName) _ row h in
    let b = bind_row (if_checked checked (may_import_policies s caller)) _ row a.2 in
    let c = bind_row (read_as answer.BadYaml (docs_of body)) _ row b.2 in
    let d = bind_row (read_as answer.BadPolicy reading.policies) _ row c.2 in
    let e = bind_row (must (has_place_for_file s.files name) answer.TooManyFiles) _ row d.2 in
    imported_row (not (has_body body (latest_of name s.files))) s.policy_number []
    (λ n. policy_row now n checked name caller body) row e.2

pub jobs_row_is : (reading : Reading) (s : LogState) (now : ℤ) (caller : Caller) (checked : Bool)
    (project body : List ℕ) (row : Row)
    → (import_jobs reading s now caller checked project body).row ≡ Some row
    → (n : ℕ) × (row ≡ jobs_row now n checked project caller body)
jobs_row_is reading s now caller checked project body row h =
    let a = bind_row (must (is_some (latest_nodes project s.projects)) answer.NoProject) _ row h in
    let b = bind_row (read_as answer.BadYaml (docs_of body)) _ row a.2 in
    let c = bind_row (read_as answer.BadJobs reading.jobs) _ row b.2 in
    let d = bind_row (ids_free s.projects project [] (map (job_id project) c.0)) _ row c.2 in
    let e = bind_row (names_free s.projects project c.0) _ row d.2 in
    let f = bind_row
    (if_checked checked (may_import_jobs (access_in s project caller) project s.projects c.0)) _
    row e.2 in
    let done : List ImportedJob = map (imported_job project s.projects) c.0 in
    imported_row (changes_any done) s.jobs_number done
    (λ n. jobs_row now n checked project caller body) row f.2

pub abort_row_is : (s : LogState) (now : ℤ) (caller : Caller) (number : ℕ) (row : Row)
    → (abort s now caller number).row ≡ Some row → row ≡ abort_row now number caller
abort_row_is s now caller number row h =
    let a = bind_row (known s number) _ row h in
    let b = bind_row (may_act_on s caller (codes "kill") a.0) _ row a.2 in
    let c = bind_row (must (is_running a.0) answer.Ended) _ row b.2 in
    let d = bind_row (must (not (list_any stops a.0.marks)) answer.Aborting) _ row c.2 in
    sym (ap (λ o. unwrap_or o row) d.2)

-- a Begin of some leaf, and a Withdraw of some node
abbrev pub IsBegin : ℤ → ℕ → Row → Type 0
IsBegin now worker row = (n : ℕ) × (k : ℕ) × (row ≡ begin_row now n k worker)

abbrev pub IsWithdraw : LogState → ℤ → Row → Type 0
IsWithdraw s now row = (n : ℕ) × (k : ℕ) × (row ≡ withdraw_row now n k s.policy_number)

-- what a claim adds
abbrev pub IsTaken : LogState → ℤ → ℕ → Row → Type 0
IsTaken s now worker row = IsBegin now worker row ⊎ IsWithdraw s now row

taken_by : (s : LogState) (e : Execution) (now : ℤ) (worker : ℕ) (leaf : Leaf)
    (refused : List Dropped) (row : Row) → (taken s e now worker leaf refused).row ≡ Some row
    → IsTaken s now worker row
taken_by s e now worker leaf [] row h = inl (e.number, _, sym (ap (λ o. unwrap_or o row) h))
taken_by s e now worker leaf (d ∷ ds) row h =
    inr (e.number, leaf.node, sym (ap (λ o. unwrap_or o row) h))

begins_by : (s : LogState) (e : Execution) (now : ℤ) (worker : ℕ) (leaf : Option Leaf)
    (later : Moved) (row : Row) → (later.row ≡ Some row → IsTaken s now worker row)
    → (claimed s e now worker leaf later).row ≡ Some row → IsTaken s now worker row
begins_by s e now worker None later row k h = k h
begins_by s e now worker (Some leaf) later row k h =
    taken_by s e now worker leaf (refused_again s e leaf) row h

begins_among : (s : LogState) (now : ℤ) (worker : ℕ) (es : List Execution) (row : Row)
    → (claim_among s now worker es).row ≡ Some row → IsTaken s now worker row
begins_among s now worker [] row h = absurd (grind (arith, h))
begins_among s now worker (e ∷ es) row h =
    begins_by s e now worker (first_startable e.accepted.plan e.marks)
    (claim_among s now worker es) row (begins_among s now worker es row) h

begins_if : (s : LogState) (b : Bool) (m : Moved) (now : ℤ) (worker : ℕ) (row : Row)
    → (m.row ≡ Some row → IsTaken s now worker row)
    → (if b then only answer.Closed else m).row ≡ Some row → IsTaken s now worker row
begins_if s true m now worker row k h = absurd (grind (arith, h))
begins_if s false m now worker row k h = k h

pub claim_row_is : (s : LogState) (now : ℤ) (worker : ℕ) (row : Row)
    → (claim s now worker).row ≡ Some row → IsTaken s now worker row
claim_row_is s now worker row h =
    begins_if s (is_closed s) (claim_among s now worker (running_executions s)) now worker row
    (begins_among s now worker (running_executions s) row) h

-- a withdrawal does not rest on the worker
taken_by_any : (s : LogState) (e : Execution) (now : ℤ) (worker other : ℕ) (leaf : Leaf)
    (refused : List Dropped) (row : Row) → row.kind ≡ 12
    → (taken s e now worker leaf refused).row ≡ Some row
    → (taken s e now other leaf refused).row ≡ Some row
taken_by_any s e now worker other leaf [] row k h =
    let kind : 8 ≡ row.kind = ap (λ o. (unwrap_or o row).kind) h in absurd (omega (arith, kind, k))
taken_by_any s e now worker other leaf (d ∷ ds) row k h = h

claimed_by_any : (s : LogState) (e : Execution) (now : ℤ) (worker other : ℕ) (leaf : Option Leaf)
    (later again : Moved) (row : Row) → row.kind ≡ 12
    → (later.row ≡ Some row → again.row ≡ Some row)
    → (claimed s e now worker leaf later).row ≡ Some row
    → (claimed s e now other leaf again).row ≡ Some row
claimed_by_any s e now worker other None later again row k f h = f h
claimed_by_any s e now worker other (Some leaf) later again row k f h =
    taken_by_any s e now worker other leaf (refused_again s e leaf) row k h

among_by_any : (s : LogState) (now : ℤ) (worker other : ℕ) (es : List Execution) (row : Row)
    → row.kind ≡ 12 → (claim_among s now worker es).row ≡ Some row
    → (claim_among s now other es).row ≡ Some row
among_by_any s now worker other [] row k h = h
among_by_any s now worker other (e ∷ es) row k h =
    claimed_by_any s e now worker other (first_startable e.accepted.plan e.marks)
    (claim_among s now worker es) (claim_among s now other es) row k
    (among_by_any s now worker other es row k) h

closed_by_any : (b : Bool) (m n : Moved) (row : Row) → (m.row ≡ Some row → n.row ≡ Some row)
    → (if b then only answer.Closed else m).row ≡ Some row
    → (if b then only answer.Closed else n).row ≡ Some row
closed_by_any true m n row f h = h
closed_by_any false m n row f h = f h

withdrawn_by_any : (s : LogState) (now : ℤ) (worker other : ℕ) (row : Row) → row.kind ≡ 12
    → (claim s now worker).row ≡ Some row → (claim s now other).row ≡ Some row
withdrawn_by_any s now worker other row k h =
    closed_by_any (is_closed s) (claim_among s now worker (running_executions s))
    (claim_among s now other (running_executions s)) row
    (among_by_any s now worker other (running_executions s) row k) h

-- where there is a worker there is worker 0
first_worker : (workers worker : ℕ) → Contains (numbers_below workers) worker
    → Contains (numbers_below workers) 0
first_worker workers worker has =
    let some : 0 < workers = omega (arith, has.1, below_length workers) in
    (0, omega (arith, some, below_length workers), below_at workers 0 0 some)

-- ---- they may come

flag_is : (checked : Bool) → nat_eq (flag checked) 1 ≡ checked
flag_is true = refl
flag_is false = refl

module _ (past : List Row) (at : ℤ) (legal : IsLegalLog past) (some : 0 < length past)
    (clock : IsMoment at) (reading : Reading) where
  abbrev s : LogState
  s = log_state past

  abbrev now : ℤ
  now = moment s at

  abbrev is_now : IsMoment now
  is_now = moment_is past at legal clock

  pub zone_may_come : (zone rule : List ℕ) (row : Row)
      → (import_zone s now zone rule).row ≡ Some row → IsLegalLog (row ∷ past)
  zone_may_come zone rule row h =
      let is = zone_row_is s now zone rule row h in
      subst (λ r. IsLegalLog (r ∷ past)) (sym is.1)
      (comes past (zone_row now is.0 zone rule) (call.ImportZone zone rule now) legal some refl
      is_now refl (record {
        asked = is_now;
        formed = tt;
        reading = reading;
        may_read = tt;
        added = ap (λ m. (import_zone s m zone rule).row) (moment_twice s at)
            ∙ h ∙ ap Some is.1;
      }))

  pub nodes_may_come : (project body : List ℕ) (row : Row)
      → (import_nodes s now project body).row ≡ Some row → IsLegalLog (row ∷ past)
  nodes_may_come project body row h =
      let is = nodes_row_is s now project body row h in
      subst (λ r. IsLegalLog (r ∷ past)) (sym is.1)
      (comes past (nodes_row now is.0 project body) (call.ImportNodes project body now) legal
      some
      refl is_now refl (record {
        asked = is_now;
        formed = tt;
        reading = reading;
        may_read = tt;
        added = ap (λ m. (import_nodes s m project body).row) (moment_twice s at)
            ∙ h ∙ ap Some is.1;
      }))

  pub close_may_come : (door : ℕ) → Contains s.doors door → IsLegalLog (close_row now door ∷ past)
  close_may_come door there =
      comes past (close_row now door) (call.CloseDoor door now) legal some refl is_now refl
      (record {
        asked = (is_now, there);
        formed = tt;
        reading = reading;
        may_read = tt;
        added = ap (λ m. Some (close_row m door)) (moment_twice s at);
      })

  begin_may_come : (worker : ℕ) (row : Row) → Contains (rights_of s).workers worker
      → IsBegin now worker row → (claim s now worker).row ≡ Some row → IsLegalLog (row ∷ past)
  begin_may_come worker row may is h =
      subst (λ r. IsLegalLog (r ∷ past)) (sym is.2)
      (comes past (begin_row now is.0 is.1 worker) (call.Claim worker now) legal some refl
      is_now
      refl (record {
        asked = (is_now, may);
        formed = tt;
        reading = reading;
        may_read = tt;
        added = ap (λ m. (claim s m worker).row) (moment_twice s at) ∙ h ∙ ap Some is.2;
      }))

  withdraw_may_come : (worker : ℕ) (row : Row) → Contains (rights_of s).workers worker
      → IsWithdraw s now row → (claim s now worker).row ≡ Some row → IsLegalLog (row ∷ past)
  withdraw_may_come worker row may is h =
      let again = withdrawn_by_any s now worker 0 row (ap (λ (r : Row). r.kind) is.2) h in
      subst (λ r. IsLegalLog (r ∷ past)) (sym is.2)
      (comes past (withdraw_row now is.0 is.1 s.policy_number) (call.Claim 0 now) legal some refl
      is_now
      refl (record {
        asked = (is_now, first_worker s.workers worker may);
        formed = tt;
        reading = reading;
        may_read = tt;
        added = ap (λ m. (claim s m 0).row) (moment_twice s at) ∙ again ∙ ap Some is.2;
      }))

  taken_may_come : (worker : ℕ) (row : Row) → Contains (rights_of s).workers worker
      → IsTaken s now worker row → (claim s now worker).row ≡ Some row → IsLegalLog (row ∷ past)
  taken_may_come worker row may (inl is) h = begin_may_come worker row may is h
  taken_may_come worker row may (inr is) h = withdraw_may_come worker row may is h

  pub claim_may_come : (worker : ℕ) (row : Row) → Contains (rights_of s).workers worker
      → (claim s now worker).row ≡ Some row → IsLegalLog (row ∷ past)
  claim_may_come worker row may h =
      taken_may_come worker row may (claim_row_is s now worker row h) h

  pub abort_may_come : (caller : Caller) (number : ℕ) (row : Row) → is_clean_caller caller ≡ true
      → (abort s now caller number).row ≡ Some row → IsLegalLog (row ∷ past)
  abort_may_come caller number row clean h =
      let is = abort_row_is s now caller number row h in
      subst (λ r. IsLegalLog (r ∷ past)) (sym is)
      (comes past (abort_row now number caller) (call.Abort caller number now) legal some refl
      is_now (ap (λ c. Some (call.Abort c number now)) (caller_is_kept caller clean)) (record {
        asked = (is_now, clean);
        formed = tt;
        reading = reading;
        may_read = tt;
        added = ap (λ m. (abort s m caller number).row) (moment_twice s at) ∙ h ∙ ap Some is;
      }))

  pub policy_may_come : (caller : Caller) (checked : Bool) (name body : List ℕ) (row : Row)
      → is_clean_caller caller ≡ true
      → MayRead s (call.ImportPolicy caller checked name body now) reading
      → (import_policy reading s now caller checked name body).row ≡ Some row
      → IsLegalLog (row ∷ past)
  policy_may_come caller checked name body row clean read h =
      let is = policy_row_is reading s now caller checked name body row h in
      subst (λ r. IsLegalLog (r ∷ past)) (sym is.1)
      (comes past (policy_row now is.0 checked name caller body)
      (call.ImportPolicy caller checked name body now) legal some refl is_now
      (ap (λ c. Some (call.ImportPolicy c (nat_eq (flag checked) 1) name body now))
      (caller_is_kept caller clean)
      ∙ ap (λ b. Some (call.ImportPolicy caller b name body now)) (flag_is checked)) (record {
        asked = (is_now, clean);
        formed = tt;
        reading = reading;
        may_read = read;
        added = ap (λ m. (import_policy reading s m caller checked name body).row)
            (moment_twice s at) ∙ h ∙ ap Some is.1;
      }))

  pub jobs_may_come : (caller : Caller) (checked : Bool) (project body : List ℕ) (row : Row)
      → is_clean_caller caller ≡ true
      → MayRead s (call.ImportJobs caller checked project body now) reading
      → (import_jobs reading s now caller checked project body).row ≡ Some row
      → IsLegalLog (row ∷ past)
  jobs_may_come caller checked project body row clean read h =
      let is = jobs_row_is reading s now caller checked project body row h in
      subst (λ r. IsLegalLog (r ∷ past)) (sym is.1)
      (comes past (jobs_row now is.0 checked project caller body)
      (call.ImportJobs caller checked project body now) legal some refl is_now
      (ap (λ c. Some (call.ImportJobs c (nat_eq (flag checked) 1) project body now))
      (caller_is_kept caller clean)
      ∙ ap (λ b. Some (call.ImportJobs caller b project body now)) (flag_is checked)) (record {
        asked = (is_now, clean);
        formed = tt;
        reading = reading;
        may_read = read;
        added = ap (λ m. (import_jobs reading s m caller checked project body).row)
            (moment_twice s at) ∙ h ∙ ap Some is.1;
      }))
