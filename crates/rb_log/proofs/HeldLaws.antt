-- What holds of each job that a legal log holds: its importer is one that a row can hold, and it
-- was looked at last at the moment of a row.
use Rattle.std.proofs.Common.{◌≡◌, ◌≤ℤ◌, int_lt, ℕ, zero, suc, ℤ, List, [], ◌∷◌, map, Bool, true, false, bytes_eq, Some, slice_get, unwrap_or, subst, refl, arith, if◌then◌else◌}
use Rattle.std.proofs.lemmas.Int.{ints}
use Rattle.std.specs.Ordering.{match_ordering, nat_cmp}
use Rattle.std.specs.Cmp.Lexicographic.{slice_cmp}
use Rattle.std.specs.declared.cmp.Ordering.{Ordering}
use Rattle.std.specs.declared.cmp.Ordering.TheVariants.{Less, Equal, Greater}
use Rattle.rb_causes.specs.Moments.{IsMoment}
use Rattle.rb_causes.specs.declared.row.Row.{Row}
use Rattle.rb_cron.specs.declared.zone.NamedZone.{NamedZone}
use Rattle.rb_job.specs.declared.job.Job.{Job}
use Rattle.rb_plan.specs.declared.world.HeldJob.{HeldJob}
use Rattle.rb_log.specs.Rows.{is_nodes, is_jobs, is_zone, row_caller, is_clean_caller}
use Rattle.rb_log.specs.World.{LoggedProject, project_name, put_nodes, with_jobs, with_fire, is_fire, fired_by, projects_at, imported_by, put_job, put_jobs, jobs_in, latest, zones_of}
use Rattle.rb_log.specs.Sameness.{same_job}
use Rattle.rb_log.specs.LogState.{LogState, log_state, moment_by}
use Rattle.rb_log.specs.Legal.{Adds, IsAdded, IsLegalLog, is_checked}
use Rattle.rb_log.specs.Fires.{IsHeld, ImportersAreClean, LookedIsPast}
use Rattle.rb_log.specs.declared.call.Call.TheVariants.{ImportJobs}
use Rattle.rb_log.proofs.EndLaws.{added, named_by, kind_is}
use Rattle.rb_log.proofs.MomentLaws.{moments_ascend}

-- ---- what holds of all held jobs

module _ (P : HeldJob → Type 0) where
  abbrev pub Every : List HeldJob → Type 0
  Every [] = Unit {0}
  Every (x ∷ xs) = P x × Every xs

  abbrev pub AllHeld : List LoggedProject → Type 0
  AllHeld [] = Unit {0}
  AllHeld (p ∷ ps) = Every p.jobs × AllHeld ps

  every_at : (xs : List HeldJob) (k : ℕ) (x : HeldJob) → Every xs → slice_get xs k ≡ Some x → P x
  every_at [] k x h get = absurd (grind (arith, get))
  every_at (y ∷ xs) zero x h get = subst (λ o. P (unwrap_or o y)) get h.0
  every_at (y ∷ xs) (suc k) x h get = every_at xs k x h.1 get

  held_in : (ps : List LoggedProject) (i : ℕ) (p : LoggedProject) → AllHeld ps
      → slice_get ps i ≡ Some p → Every p.jobs
  held_in [] i p h get = absurd (grind (arith, get))
  held_in (q ∷ ps) zero p h get = subst (λ o. Every (unwrap_or o q).jobs) get h.0
  held_in (q ∷ ps) (suc i) p h get = held_in ps i p h.1 get

  pub held_has : (ps : List LoggedProject) (held : HeldJob) → AllHeld ps → IsHeld ps held → P held
  held_has ps held h is =
      every_at is.project.jobs is.job_place held
      (held_in ps is.place is.project h is.in_projects) is.in_project

  -- ---- a row that imports jobs

  one_every : (o : Ordering) (a b c : List HeldJob) → Every a → Every b → Every c
      → Every (match_ordering o a b c)
  one_every Less a b c x y z = x
  one_every Equal a b c x y z = y
  one_every Greater a b c x y z = z

  either_job : (b : Bool) (new held : HeldJob) → P new → P held → P (if b then held else new)
  either_job true new held h k = k
  either_job false new held h k = h

  put_every : (new : HeldJob) (hs : List HeldJob) → P new → Every hs → Every (put_job new hs)
  put_every new [] h k = (h, tt)
  put_every new (x ∷ hs) h k =
      one_every (slice_cmp nat_cmp new.id x.id) _ _ _ (h, k)
      (either_job (same_job x.job new.job) new x h k.0, k.1) (k.0, put_every new hs h k.1)

  put_all : (row : Row) (jobs : List Job) (held : List HeldJob)
      → ((job : Job) → P (imported_by row job)) → Every held → Every (put_jobs row jobs held)
  put_all row [] held h k = k
  put_all row (job ∷ jobs) held h k =
      put_all row jobs (put_job (imported_by row job) held) h
      (put_every (imported_by row job) held (h job) k)

  with_if : (b : Bool) (row : Row) (jobs : List Job) (p : LoggedProject)
      → ((job : Job) → P (imported_by row job)) → Every p.jobs
      → Every (if b then record p { jobs = put_jobs row jobs p.jobs } else p).jobs
  with_if true row jobs p h k = put_all row jobs p.jobs h k
  with_if false row jobs p h k = k

  with_all : (zones : List NamedZone) (row : Row) (ps : List LoggedProject)
      → ((job : Job) → P (imported_by row job)) → AllHeld ps
      → AllHeld (map (with_jobs zones row) ps)
  with_all zones row [] h k = tt
  with_all zones row (p ∷ ps) h k = (
    with_if (bytes_eq (project_name p) row.name) row (jobs_in zones row) p h k.0,
    with_all zones row ps h k.1,
  )

  -- ---- a row that fires one

  -- a job of the row's name, looked at at its moment
  abbrev pub IsFiredBy : Row → Type 0
  IsFiredBy row =
      (held : HeldJob) → bytes_eq held.id row.name ≡ true → P held
      → P (record held { looked = row.at })

  fired_if : (b : Bool) (row : Row) (held : HeldJob) → bytes_eq held.id row.name ≡ b
      → IsFiredBy row → P held → P (if b then record held { looked = row.at } else held)
  fired_if true row held is h k = h held is k
  fired_if false row held is h k = k

  fired_every : (row : Row) (hs : List HeldJob) → IsFiredBy row → Every hs
      → Every (map (fired_by row) hs)
  fired_every row [] h k = tt
  fired_every row (x ∷ hs) h k =
      (fired_if (bytes_eq x.id row.name) row x refl h k.0, fired_every row hs h k.1)

  fired_all : (row : Row) (ps : List LoggedProject) → IsFiredBy row → AllHeld ps
      → AllHeld (map (with_fire row) ps)
  fired_all row [] h k = tt
  fired_all row (p ∷ ps) h k = (fired_every row p.jobs h k.0, fired_all row ps h k.1)

  -- ---- a row that imports nodes

  one_all : (o : Ordering) (a b c : List LoggedProject) → AllHeld a → AllHeld b → AllHeld c
      → AllHeld (match_ordering o a b c)
  one_all Less a b c x y z = x
  one_all Equal a b c x y z = y
  one_all Greater a b c x y z = z

  nodes_all : (row : Row) (ps : List LoggedProject) → AllHeld ps → AllHeld (put_nodes row ps)
  nodes_all row [] k = (tt, tt)
  nodes_all row (p ∷ ps) k =
      one_all (slice_cmp nat_cmp row.name (project_name p)) _ _ _ (tt, k) k
      (k.0, nodes_all row ps k.1)

  -- ---- each row

  pub held_after : (zones : List NamedZone) (n j f : Bool) (row : Row) (ps : List LoggedProject)
      → (j ≡ true → (job : Job) → P (imported_by row job)) → (f ≡ true → IsFiredBy row)
      → AllHeld ps
      → AllHeld (if n then put_nodes row ps else if j then map (with_jobs zones row) ps
      else if f then map (with_fire row) ps else ps)
  held_after zones true j f row ps h g k = nodes_all row ps k
  held_after zones false true f row ps h g k = with_all zones row ps (h refl) k
  held_after zones false false true row ps h g k = fired_all row ps (g refl) k
  held_after zones false false false row ps h g k = k

-- ---- what follows for all of them

module _ (P Q : HeldJob → Type 0) (f : (held : HeldJob) → P held → Q held) where
  over : (hs : List HeldJob) → Every P hs → Every Q hs
  over [] h = tt
  over (x ∷ hs) h = (f x h.0, over hs h.1)

  pub all_over : (ps : List LoggedProject) → AllHeld P ps → AllHeld Q ps
  all_over [] h = tt
  all_over (p ∷ ps) h = (over p.jobs h.0, all_over ps h.1)

-- ---- importers

abbrev pub HasCleanImporter : HeldJob → Type 0
HasCleanImporter held = is_clean_caller held.importer ≡ true

row_clean : (past : List Row) (row : Row) → IsLegalLog (row ∷ past) → is_jobs row ≡ true
    → is_clean_caller (row_caller row) ≡ true
row_clean past row h is =
    let s : LogState = log_state past in
    let kind : row.kind ≡ 3 = kind_is row 3 is in
    let adds : Adds s row (ImportJobs (row_caller row) (is_checked row) row.name row.body row.at) =
    subst (IsAdded s row) (named_by s row 3 kind) (added past row 1 h kind) in
    adds.asked.1

all_clean : (past : List Row) → IsLegalLog past
    → AllHeld HasCleanImporter (projects_at past)
all_clean [] h = tt
all_clean (row ∷ past) h =
    held_after HasCleanImporter (zones_of (latest is_zone past)) (is_nodes row) (is_jobs row)
    (is_fire row) row (projects_at past) (λ is job. row_clean past row h is)
    (λ fires held named clean. clean) (all_clean past h.0)

pub importers_are_clean : ImportersAreClean
importers_are_clean past held h is =
    held_has HasCleanImporter (projects_at past) held (all_clean past h) is

-- ---- when a job was looked at last

abbrev pub IsLookedBy : ℤ → HeldJob → Type 0
IsLookedBy at held = IsMoment held.looked × (held.looked ≤ℤ at)

looked_later : (at later : ℤ) → at ≤ℤ later → (held : HeldJob) → IsLookedBy at held
    → IsLookedBy later held
looked_later at later h held looked = (looked.0, omega (arith, ints, h, looked.1))

same_moment : (at : ℤ) → at ≤ℤ at
same_moment at = omega (arith, ints)

moment_is_later_by : (last at : ℤ) (b : Bool) → int_lt at last ≡ b
    → (if b then last else at) ≡ at → last ≤ℤ at
moment_is_later_by last at true is h = omega (arith, ints, h)
moment_is_later_by last at false is h = omega (arith, ints, is)

-- the moment of a row of a legal log is no earlier than the last row's
pub moment_is_later : (last at : ℤ) → moment_by (Some last) at ≡ at → last ≤ℤ at
moment_is_later last at h = moment_is_later_by last at (int_lt at last) refl h

abbrev LookedIn : List Row → Type 0
LookedIn [] = Unit {0}
LookedIn (row ∷ past) = AllHeld (IsLookedBy row.at) (projects_at (row ∷ past))

-- those before the row, by its moment
looked_before : (row : Row) (past : List Row) → IsLegalLog (row ∷ past) → LookedIn past
    → AllHeld (IsLookedBy row.at) (projects_at past)
looked_before row [] h k = tt
looked_before row (last ∷ past) h k =
    let later = moment_is_later last.at row.at (moments_ascend row (last ∷ past) h).1 in
    all_over (IsLookedBy last.at) (IsLookedBy row.at) (looked_later last.at row.at later)
    (projects_at (last ∷ past)) k

looked_in : (past : List Row) → IsLegalLog past → LookedIn past
looked_in [] h = tt
looked_in (row ∷ past) h =
    let here : IsMoment row.at × (row.at ≤ℤ row.at) = (h.1.0, same_moment row.at) in
    held_after (IsLookedBy row.at) (zones_of (latest is_zone past)) (is_nodes row) (is_jobs row)
    (is_fire row) row (projects_at past) (λ is job. here) (λ fires held named looked. here)
    (looked_before row past h (looked_in past h.0))

pub looked_is_past : LookedIsPast
looked_is_past row past held h is =
    held_has (IsLookedBy row.at) (projects_at (row ∷ past)) held (looked_in (row ∷ past) h) is
