-- A due job is fired by the next Tick.
use Rattle.std.proofs.Common.{
  ◌≡◌,
  ◌∙◌,
  ◌⊎◌,
  inl,
  inr,
  ◌<◌,
  ◌≤◌,
  ◌+◌,
  ◌-◌,
  ◌*◌,
  ◌^◌,
  ◌≤ℤ◌,
  ◌<ℤ◌,
  ℕ,
  ℤ,
  pos,
  zero,
  suc,
  negsuc,
  int_le,
  Bool,
  true,
  false,
  ◌&&◌,
  List,
  [],
  ◌∷◌,
  ◌++◌,
  length,
  reverse,
  take,
  drop,
  slice_get,
  All,
  Option,
  Some,
  None,
  is_some,
  option_to_list,
  Result,
  Ok,
  Err,
  ap,
  sym,
  subst,
  refl,
  arith,
  length-append,
  length-take-le,
  append-nil,
  take-append-drop,
  if◌then◌else◌,
}
use Rattle.std.proofs.lemmas.Bool.{false≢true}
use Rattle.std.proofs.lemmas.Int.{ints}
use Rattle.std.proofs.lemmas.List.{reverse-append}
use Rattle.std.proofs.lemmas.List.Elements.{All-cons, All-contains, All-nil}
use Rattle.rb_causes.specs.Causes.{Rose}
use Rattle.rb_causes.proofs.Written.{rose_since, rose_until}
use Rattle.rb_causes.specs.declared.row.Row.{Row}
use Rattle.rb_cron.specs.Laws.{NextIsOne}
use Rattle.rb_cron.specs.Next.{IsDueAfter, last_instant, natural_of}
use Rattle.rb_door.specs.Exchanges.{Moments}
use Rattle.rb_door.specs.Laws.{ActsAreTrue}
use Rattle.rb_log.specs.Acted.{Acted}
use Rattle.rb_log.specs.Asks.{ask_of, ask_text, is_due_ask, scheduled_ask}
use Rattle.rb_log.specs.Fires.{
  DueIsLeast,
  FirstIsFirst,
  ImportersAreClean,
  IsDueFor,
  IsFirstDue,
  IsHeld,
  LookedIsPast,
  NoneIsNone,
}
use Rattle.rb_log.specs.Laws.{BeginningsAreLegal, CallerIsKept, DueAskIsKept}
use Rattle.rb_log.specs.Legal.{IsLegalLog}
use Rattle.rb_log.specs.LogState.{LogState, has_room, moment, nodes_number}
use Rattle.rb_log.specs.Moves.{Moved, adds, full_unless, limited}
use Rattle.rb_log.specs.Readings.{Reading}
use Rattle.rb_log.specs.Records.{
  Follows,
  IsTrueAnswer,
  IsTrueRecord,
  Record,
  StaysAtFault,
  WouldAdd,
  before_record,
  is_save,
  turn_at,
  without_kept,
}
use Rattle.rb_log.specs.Rows.{accept_row, is_accept, is_clean_caller, row_caller, skipped_row}
use Rattle.rb_log.specs.Runs.{next_execution, next_number}
use Rattle.rb_log.specs.Sums.{leaf_count}
use Rattle.rb_log.specs.Ticks.{
  DueJob,
  come_by,
  due_instant,
  first_due,
  instant_number,
  no_later,
  tick_by,
  tick_on,
}
use Rattle.rb_log.specs.Told.{Told, tells_fault}
use Rattle.rb_log.specs.Turn.{turn_by}
use Rattle.rb_log.specs.World.{projects_at}
use Rattle.rb_log.specs.declared.answer.Answer.{Answer}
use Rattle.rb_log.specs.declared.answer.Answer.TheVariants as answer
use Rattle.rb_log.specs.declared.call.Call.TheVariants.{Tick}
use Rattle.rb_plan.specs.Acceptance.{Acceptance}
use Rattle.rb_plan.specs.Refusals.{refusal_number}
use Rattle.rb_plan.specs.declared.refusal.Refusal.{Refusal}
use Rattle.rb_plan.specs.declared.world.HeldJob.{HeldJob}
use Rattle.rb_session.specs.Laws.{CoursesAct}
use Rattle.rb_session_laws.specs.Due.{
  DueJobsAreFired,
  Firing,
  FiresFirst,
  HasFired,
  IsAccepted,
  IsCause,
  IsFiringOf,
  IsSkipped,
  IsUnfired,
  TicksFire,
  due_verdict,
  said_before,
}
use Rattle.rb_session_laws.specs.Origins.{deed_records}
use Rattle.rb_session_laws.proofs.Asked.{deeds_act, rows_are_asked}
use Rattle.rb_session_top.specs.Sights.{desk_told}
use Rattle.rb_tables.specs.Tables.{most_rows}
use Rattle.rb_work.proofs.Records.{acted_faults}

-- ---- the first job that is due

enabled_then : (a b : Bool) (o : Option ℤ) → a ≡ true → b ≡ true
    → (if a && b then o else None) ≡ o
enabled_then true true o h k = refl
enabled_then true false o h k = absurd (grind (arith, k))
enabled_then false b o h k = absurd (grind (arith, h))

come_then : (now t : ℤ) (b : Bool) → int_le t now ≡ b → t ≤ℤ now
    → (if b then Some t else None) ≡ Some t
come_then now t true is come = refl
come_then now t false is come = absurd (omega (arith, ints, is, come))

-- what is due by the words is due by the function
due_instant_is : NextIsOne → (now : ℤ) (held : HeldJob) (t : ℤ) → IsDueFor now held t
    → due_instant now held ≡ Some t
due_instant_is one now held t is =
    enabled_then held.job.enabled held.job.schedule_enabled
    (come_by now held.looked held.job.schedule) is.enabled is.schedule_enabled
    ∙ ap (come_by now held.looked) is.schedule
    ∙ ap (no_later now) (sym (one is.source held.looked (Some t) is.least))
    ∙ come_then now t (int_le t now) refl is.come

not_none : {A : Type 0} (o : Option A) (x : A) → o ≡ None → o ≡ Some x → ⊥
not_none None x h k = grind (arith, k)
not_none (Some y) x h k = grind (arith, h)

some_first : NoneIsNone → (s : LogState) (now : ℤ) (held : HeldJob) (t : ℤ)
    → IsHeld s.projects held → due_instant now held ≡ Some t → (due : Option DueJob)
    → first_due s now ≡ due → (d : DueJob) × (first_due s now ≡ Some d)
some_first none s now held t is due None h =
    absurd (not_none (due_instant now held) t ((none s now).0 h held is) due)
some_first none s now held t is due (Some d) h = (d, h)

-- ---- what fires it

abbrev firing_by : LogState → ℤ → DueJob → Result Acceptance Refusal → Firing
firing_by s now d (Ok accepted) = record {
  row = accept_row now (next_number s) s.policy_number (nodes_number s accepted.project) d.held.id
      d.held.importer (ask_text (scheduled_ask d.held.id) (Some (instant_number d)));
  told = next_number s;
  need = 2 + 2 * leaf_count (next_execution s now d.held.importer accepted);
}
firing_by s now d (Err refusal) = record {
  row = skipped_row now (instant_number d) (refusal_number refusal) d.held.id;
  told = 0;
  need = 1;
}

abbrev moved_as : Firing → Moved
moved_as f = adds f.need (answer.Fired f.told) f.row

ticks_as : (s : LogState) (now : ℤ) (d : DueJob) (v : Result Acceptance Refusal)
    → tick_by s now d v ≡ moved_as (firing_by s now d v)
ticks_as s now d (Ok accepted) = refl
ticks_as s now d (Err refusal) = refl

natural_low : (t : ℤ) → t ≤ℤ last_instant → natural_of t < 2 ^ 64
natural_low (pos n) h =
    let low : n ≤ 7258118399 = omega (arith, ints, h) in omega (arith, low)
natural_low (negsuc n) h = omega arith

-- the ask of a due run comes out of its row as it went in
abbrev IsKept : DueJob → Type 0
IsKept d =
    ask_of d.held.id (ask_text (scheduled_ask d.held.id) (Some (instant_number d)))
    ≡ Some (scheduled_ask d.held.id, Some (instant_number d))

-- a due instant is behind the moment at which its job was looked at last, and a schedule has an end
is_behind : (now : ℤ) (held : HeldJob) (t : ℤ) → IsDueFor now held t
    → (held.looked <ℤ t) × (t ≤ℤ last_instant)
is_behind now held t is =
    let after : IsDueAfter is.source held.looked t = is.least.due in (after.1, after.2)

ask_kept : DueAskIsKept → (now : ℤ) (d : DueJob) → IsDueFor now d.held d.instant → IsKept d
ask_kept kept now d is =
    kept (scheduled_ask d.held.id) (instant_number d)
    (natural_low d.instant (is_behind now d.held d.instant is).1)

firing_is : (s : LogState) (now : ℤ) (d : DueJob) (v : Result Acceptance Refusal) → IsKept d
    → due_verdict s d ≡ v → IsFiringOf s now d (firing_by s now d v)
firing_is s now d (Ok accepted) kept h = record {
  fires = record { fires = ap is_due_ask kept; named = refl };
  instant = inr (refl, (scheduled_ask d.held.id, kept));
  verdict = inl (record {
    accepted = accepted;
    verdict = h;
    row = refl;
    told = refl;
    need = refl;
  });
}
firing_is s now d (Err refusal) kept h = record {
  fires = record { fires = refl; named = refl };
  instant = inl (refl, refl);
  verdict = inr (record { refusal = refusal; verdict = h; row = refl; told = refl; need = refl });
}

-- ---- what became of it

get_stays : {A : Type 0} (xs more : List A) (n : ℕ) (y : A) → slice_get xs n ≡ Some y
    → slice_get (xs ++ more) n ≡ Some y
get_stays [] more n y h = absurd (grind (arith, h))
get_stays (x ∷ xs) more zero y h = h
get_stays (x ∷ xs) more (suc n) y h = get_stays xs more n y h

get_seam : {A : Type 0} (xs ys : List A) (y : A)
    → slice_get (xs ++ y ∷ ys) (length xs) ≡ Some y
get_seam [] ys y = refl
get_seam (x ∷ xs) ys y = get_seam xs ys y

abbrev tells_kept : Answer → Bool
tells_kept (answer.Reported kept) = true
tells_kept (answer.DoorClosed kept) = true
tells_kept other = false

kept_is : (a b : Answer) → tells_kept b ≡ false → without_kept a ≡ b → a ≡ b
kept_is (answer.Reported kept) b none h =
    absurd (false≢true (sym (ap tells_kept h ∙ none)))
kept_is (answer.DoorClosed kept) b none h =
    absurd (false≢true (sym (ap tells_kept h ∙ none)))
kept_is other b none h = h

has_place : (place : Bool) (f : Firing)
    → is_some (full_unless place (moved_as f)).row ≡ true → place ≡ true
has_place true f h = refl
has_place false f h = absurd (false≢true h)

module _ (log : List Row) (before after : ℕ) (row : Row) (order : before ≤ after)
    (within : after ≤ length log) (rows : take after log ≡ take before log ++ row ∷ []) where
  old_length : length (take before log) ≡ before
  old_length = length-take-le before log (omega (arith, order, within))

  one_row : after ≡ before + 1
  one_row =
      sym (length-take-le after log within) ∙ ap length rows
      ∙ length-append (take before log) (row ∷ []) ∙ ap (λ n. n + 1) old_length

  row_there : slice_get log (after - 1) ≡ Some row
  row_there =
      let place : after - 1 ≡ length (take before log) = omega (arith, one_row, old_length) in
      ap (slice_get log) place
      ∙ ap (λ all. slice_get all (length (take before log))) (sym (take-append-drop after log))
      ∙ get_stays (take after log) (drop after log) (length (take before log)) row
      (ap (λ all. slice_get all (length (take before log))) rows
      ∙ get_seam (take before log) [] row)

no_row : (log : List Row) (before after : ℕ) → before ≤ after → after ≤ length log
    → take after log ≡ take before log ++ [] → after ≡ before
no_row log before after order within rows =
    let same : length (take after log) ≡ length (take before log) =
    ap length (rows ∙ append-nil (take before log)) in
    omega (
      arith,
      same,
      length-take-le after log within,
      length-take-le before log (omega (arith, order, within)),
    )

module _ (log : List Row) (room : ℕ) (r : Record) (f : Firing) (place : Bool)
    (turn : (reading : Reading) → turn_at reading log room r ≡ full_unless place (moved_as f))
    (unsaved : is_save r.call ≡ false) (order : r.before ≤ r.after)
    (within : r.after ≤ length log) where
  followed : (b : Bool) → place ≡ b → Follows log room r
      → HasFired log r f place ⊎ IsUnfired r place
  followed true is h =
      let moved : turn_at h.reading log room r ≡ moved_as f =
      turn h.reading ∙ ap (λ b. full_unless b (moved_as f)) is in
      let rows : take r.after log ≡ take r.before log ++ f.row ∷ [] =
      h.rows ∙ ap (λ (m : Moved). take r.before log ++ option_to_list m.row) moved in
      inl (record {
        place = is;
        one = one_row log r.before r.after f.row order within rows;
        row = row_there log r.before r.after f.row order within rows;
        says = kept_is r.answer (answer.Fired f.told) refl
            (h.says ∙ ap (λ (m : Moved). m.answer) moved);
      })
  followed false is h =
      let moved : turn_at h.reading log room r ≡ full_unless false (moved_as f) =
      turn h.reading ∙ ap (λ b. full_unless b (moved_as f)) is in
      let full : r.answer ≡ answer.Full =
      kept_is r.answer answer.Full refl (h.says ∙ ap (λ (m : Moved). m.answer) moved) in
      inr (record {
        same = no_row log r.before r.after order within
            (h.rows ∙ ap (λ (m : Moved). take r.before log ++ option_to_list m.row) moved);
        cause = subst (λ a. IsCause a place) (sym full) is;
      })

  at_fault : (save : Bool) → save ≡ false → r.answer ≡ answer.StoreFault
      → StaysAtFault save log room r → IsUnfired r place
  at_fault true unset is h = absurd (grind (arith, unset))
  at_fault false unset is h =
      let would : WouldAdd log room r = h.may in
      let adds : is_some (turn_at would.reading log room r).row ≡ true = would.adds in
      record {
        same = h.same;
        cause = subst (λ a. IsCause a place) (sym is)
            (has_place place f
            (ap (λ (m : Moved). is_some m.row) (sym (turn would.reading)) ∙ adds));
      }

  answered : (a : Answer) → r.answer ≡ a → IsTrueAnswer a log room r
      → HasFired log r f place ⊎ IsUnfired r place
  answered answer.NoMemory is h =
      inr (record { same = h.same; cause = subst (λ a. IsCause a place) (sym is) tt })
  answered answer.StoreFault is h = inr (at_fault (is_save r.call) unsaved is h)
  answered other is h = followed place refl h

-- ---- any log

tick_turn : (reading : Reading) (s : LogState) (room : ℕ) (at : ℤ) (d : DueJob)
    (v : Result Acceptance Refusal) → first_due s (moment s at) ≡ Some d → due_verdict s d ≡ v
    → (f : Firing) → f ≡ firing_by s (moment s at) d v
    → turn_by reading s room (Tick at)
    ≡ full_unless (has_room s room f.need f.row) (moved_as f)
tick_turn reading s room at d v first verdict f is =
    ap (λ due. limited s room (tick_on s (moment s at) due)) first
    ∙ ap (λ v. limited s room (tick_by s (moment s at) d v)) verdict
    ∙ ap (limited s room) (ticks_as s (moment s at) d v)
    ∙ ap (λ f. limited s room (moved_as f)) (sym is)

module _ (kept : DueAskIsKept) (log : List Row) (room : ℕ) (r : Record) (at : ℤ)
    (is : IsTrueRecord log room r) (asked : r.call ≡ Tick at) where
  abbrev stood : LogState
  stood = said_before log r

  abbrev then_is : ℤ
  then_is = moment stood at

  fired_by : (d : DueJob) → first_due stood then_is ≡ Some d → IsFirstDue stood then_is d
      → IsDueFor then_is d.held d.instant → (v : Result Acceptance Refusal)
      → due_verdict stood d ≡ v → (f : Firing) → f ≡ firing_by stood then_is d v
      → FiresFirst log room r then_is
  fired_by d found first due v verdict f same = record {
    d = d;
    first = first;
    due = due;
    firing = f;
    is = subst (IsFiringOf stood then_is d) (sym same)
        (firing_is stood then_is d v (ask_kept kept then_is d due) verdict);
    done = answered log room r f (has_room stood room f.need f.row)
        (λ reading.
        ap (turn_by reading stood room) asked
        ∙ tick_turn reading stood room at d v found verdict f same)
        (ap is_save asked) is.within.0 is.within.1 r.answer refl is.answer;
  }

pub ticks_fire : NextIsOne → NoneIsNone → FirstIsFirst → DueIsLeast → DueAskIsKept
    → TicksFire
ticks_fire one none firsts least kept log room r at is asked job =
    let s = said_before log r in
    let now = moment s at in
    let found = some_first none s now job.d.held job.d.instant job.held
    (due_instant_is one now job.d.held job.d.instant job.due) (first_due s now) refl in
    let d : DueJob = found.0 in
    let first = firsts s now d found.1 in
    fired_by kept log room r at is asked d found.1 first (least now d.held d.instant first.due)
    (due_verdict s d) refl (firing_by s now d (due_verdict s d)) refl

-- ---- a legal log

legal_before : BeginningsAreLegal → (log : List Row) (r : Record) → IsLegalLog (reverse log)
    → IsLegalLog (before_record log r)
legal_before law log r legal =
    law (reverse (drop r.before log)) (reverse (take r.before log))
    (subst IsLegalLog
    (ap reverse (sym (take-append-drop r.before log))
    ∙ reverse-append (take r.before log) (drop r.before log)) legal)

none_held : (held : HeldJob) → IsHeld [] held → ⊥
none_held held is = let none = is.in_projects in grind (arith, none)

looked_late : LookedIsPast → (past : List Row) (held : HeldJob) → IsLegalLog past
    → IsHeld (projects_at past) held → pos 0 ≤ℤ held.looked
looked_late law [] held legal is = absurd (none_held held is)
looked_late law (row ∷ past) held legal is = (law row past held legal is).0.0

natural_is : (looked t : ℤ) → pos 0 ≤ℤ looked → looked <ℤ t → pos (natural_of t) ≡ t
natural_is looked (pos n) h k = refl
natural_is looked (negsuc n) h k = absurd (omega (arith, ints, h, k))

importer_is : CallerIsKept → (s : LogState) (now : ℤ) (d : DueJob) (f : Firing)
    → is_clean_caller d.held.importer ≡ true → IsAccepted s now d f ⊎ IsSkipped s now d f
    → is_accept f.row ≡ true → row_caller f.row ≡ d.held.importer
importer_is kept s now d f clean (inl a) is =
    kept f.row d.held.importer clean (ap (λ (row : Row). row.who) a.row)
importer_is kept s now d f clean (inr k) is =
    absurd (false≢true (sym (ap is_accept k.row) ∙ is))

-- ---- a session

-- a store fault is told only where the count rose
abbrev RisesAt : ℕ → ℕ → Record → Type 0
RisesAt opened ended r = r.answer ≡ answer.StoreFault → Rose opened ended

no_less : (n : ℕ) → n ≤ n
no_less n = omega arith

faults_rise : (opened : ℕ) (rs : List Record) (old new : Told) → opened ≤ old.faults
    → Acted old new rs → All (RisesAt opened new.faults) rs
faults_rise opened [] old new low h = All-nil (RisesAt opened new.faults)
faults_rise opened (r ∷ rs) old new low h =
    let mid : Told = h.0 in
    let grown = h.1.acts.faults in
    All-cons (RisesAt opened new.faults) r rs
    (λ is. rose_until opened mid.faults new.faults
    (rose_since opened old.faults mid.faults low (h.1.acts.cause (ap tells_fault is)))
    (acted_faults rs mid new h.2))
    (faults_rise opened rs mid new (omega (arith, low, grown)) h.2)

module _ (legal : BeginningsAreLegal) (past : LookedIsPast) (clean : ImportersAreClean)
    (kept : CallerIsKept) (ticks : TicksFire) (acts : ActsAreTrue) (may_be : Moments)
    (course_acts : CoursesAct may_be) where
  pub due_jobs_are_fired : DueJobsAreFired may_be
  due_jobs_are_fired name draw old new desk deeds headline r at there asked job =
      let now = moment (said_before desk.log r) at in
      let rows = rows_are_asked may_be course_acts acts name draw old new desk deeds headline in
      let fires : FiresFirst desk.log most_rows r now =
      ticks desk.log most_rows r at
      (All-contains (IsTrueRecord desk.log most_rows) (deed_records deeds) r rows.each there) asked
      job in
      let before = legal_before legal desk.log r headline.legal in
      record {
        is = fires;
        instant = natural_is fires.d.held.looked fires.d.instant
            (looked_late past (before_record desk.log r) fires.d.held before fires.first.held)
            (is_behind now fires.d.held fires.d.instant fires.due).0;
        importer = importer_is kept (said_before desk.log r) now fires.d fires.firing
            (clean (before_record desk.log r) fires.d.held before fires.first.held)
            fires.is.verdict;
        cause = All-contains (RisesAt headline.faults new.kept.faults) (deed_records deeds) r
            (faults_rise headline.faults (deed_records deeds)
            (desk_told headline.opened headline.faults) (desk_told desk new.kept.faults)
            (no_less headline.faults)
            (deeds_act may_be course_acts name draw old new desk deeds headline)) there;
      }
