-- The row that a tick adds: it may come, it fires the first job that is due, for its importer and
-- in time.
use Rattle.std.proofs.Common.{◌≡◌, ◌∙◌, ◌⊎◌, inl, inr, ◌<◌, ◌≤◌, ◌^◌, ◌≤ℤ◌, ◌<ℤ◌, ℕ, ℤ, pos, negsuc, int_le, List, [], ◌∷◌, length, Bool, true, false, ◌&&◌, ◌||◌, Option, Some, None, Result, Ok, Err, unwrap_or, ap, sym, subst, refl, arith, if◌then◌else◌}
use Rattle.std.proofs.lemmas.Bool.{and_parts}
use Rattle.std.proofs.lemmas.Int.{ints}
use Rattle.rb_causes.specs.Moments.{IsMoment}
use Rattle.rb_causes.specs.declared.row.Row.{Row}
use Rattle.rb_cron.specs.Due.{Source}
use Rattle.rb_cron.specs.Laws.{NextIsLeast}
use Rattle.rb_cron.specs.Next.{IsLeastDue, IsDueAfter, natural_of, next_due, last_instant}
use Rattle.rb_plan.specs.Acceptance.{Acceptance}
use Rattle.rb_plan.specs.Refusals.{refusal_number}
use Rattle.rb_plan.specs.declared.refusal.Refusal.{Refusal}
use Rattle.rb_plan.specs.declared.world.HeldJob.{HeldJob}
use Rattle.rb_plan.specs.declared.world.RunAsk.{RunAsk}
use Rattle.rb_log.specs.Readings.{Reading}
use Rattle.rb_log.specs.Rows.{is_accept, accept_row, skipped_row, row_caller, is_clean_caller}
use Rattle.rb_log.specs.Asks.{DueAsk, ask_of, ask_text, is_due_ask, scheduled_ask}
use Rattle.rb_log.specs.World.{projects_at}
use Rattle.rb_log.specs.LogState.{LogState, log_state, nodes_number, moment}
use Rattle.rb_log.specs.Runs.{next_number, verdict_at}
use Rattle.rb_log.specs.Ticks.{DueJob, no_later, come_by, due_instant, first_due, instant_number, tick, tick_on, tick_by}
use Rattle.rb_log.specs.Fires.{IsHeld, DueIsLeast, FiresJob, DueIsFired, IsScheduled, ScheduledRuns, Names, FiredInTime}
use Rattle.rb_log.specs.Legal.{IsAdded, IsLegalLog, run_named}
use Rattle.rb_log.specs.declared.call.Call.TheVariants as call
use Rattle.rb_log.proofs.AskLaws.{due_ask_is_kept}
use Rattle.rb_log.proofs.EndLaws.{added, named_by, kind_is}
use Rattle.rb_log.proofs.FireLaws.{due_fires}
use Rattle.rb_log.proofs.FiredRows.{skipped_is_first}
use Rattle.rb_log.proofs.HeldLaws.{importers_are_clean, looked_is_past}
use Rattle.rb_log.proofs.LeastDue.{first_is_first}
use Rattle.rb_log.proofs.MomentLaws.{moments_ascend}
use Rattle.rb_log.proofs.RowLaws.{caller_is_kept}
use Rattle.rb_log.proofs.TurnLaws.{comes, moment_is, moment_twice}

-- ---- a due job

-- the job and its schedule are enabled, and its next instant has come
pub record IsDueBy (now : ℤ) (held : HeldJob) (t : ℤ) : Type 0 where
  pub source : Source
  pub schedule : held.job.schedule ≡ Some source
  pub next : next_due source held.looked ≡ Some t
  pub come : t ≤ℤ now
  pub enabled : held.job.enabled ≡ true
  pub schedule_enabled : held.job.schedule_enabled ≡ true

come_if : (now u t : ℤ) (b : Bool) → int_le u now ≡ b → (if b then Some u else None) ≡ Some t
    → (Some u ≡ Some t) × (t ≤ℤ now)
come_if now u t true is h =
    let same : u ≡ t = ap (λ o. unwrap_or o u) h in
    (h, subst (λ z. z ≤ℤ now) same (omega (arith, ints, is)))
come_if now u t false is h = absurd (grind (arith, h))

no_later_is : (now t : ℤ) (o : Option ℤ) → no_later now o ≡ Some t → (o ≡ Some t) × (t ≤ℤ now)
no_later_is now t None h = absurd (grind (arith, h))
no_later_is now t (Some u) h = come_if now u t (int_le u now) refl h

come_is : (now looked t : ℤ) (schedule : Option Source) → come_by now looked schedule ≡ Some t
    → (source : Source) × (schedule ≡ Some source) × (next_due source looked ≡ Some t)
    × (t ≤ℤ now)
come_is now looked t None h = absurd (grind (arith, h))
come_is now looked t (Some source) h =
    let c = no_later_is now t (next_due source looked) h in (source, refl, c.0, c.1)

enabled_is : (b : Bool) (o : Option ℤ) (t : ℤ) → (if b then o else None) ≡ Some t
    → (b ≡ true) × (o ≡ Some t)
enabled_is true o t h = (refl, h)
enabled_is false o t h = absurd (grind (arith, h))

pub due_means : (now : ℤ) (held : HeldJob) (t : ℤ) → due_instant now held ≡ Some t
    → IsDueBy now held t
due_means now held t h =
    let e = enabled_is (held.job.enabled && held.job.schedule_enabled)
    (come_by now held.looked held.job.schedule) t h in
    let both = and_parts held.job.enabled held.job.schedule_enabled e.0 in
    let c = come_is now held.looked t held.job.schedule e.1 in
    record {
      source = c.0;
      schedule = c.1;
      next = c.2;
      come = c.3;
      enabled = both.0;
      schedule_enabled = both.1;
    }

least_of : NextIsLeast → (now : ℤ) (held : HeldJob) (t : ℤ) → (d : IsDueBy now held t)
    → IsLeastDue d.source held.looked (Some t)
least_of law now held t d =
    subst (IsLeastDue d.source held.looked) d.next (law d.source held.looked)

pub due_is_least : NextIsLeast → DueIsLeast
due_is_least law now held t h =
    let d = due_means now held t h in
    record {
      source = d.source;
      schedule = d.schedule;
      least = least_of law now held t d;
      come = d.come;
      enabled = d.enabled;
      schedule_enabled = d.schedule_enabled;
    }

-- it is behind the moment at which the job was looked at last, and a schedule has an end
pub is_behind : NextIsLeast → (now : ℤ) (held : HeldJob) (t : ℤ) → due_instant now held ≡ Some t
    → (held.looked <ℤ t) × (t ≤ℤ last_instant)
is_behind law now held t h =
    let d = due_means now held t h in
    let after : IsDueAfter d.source held.looked t = (least_of law now held t d).due in
    (after.1, after.2)

natural_low : (t top : ℤ) → t ≤ℤ top → top ≤ℤ pos 7258118399 → natural_of t < 2 ^ 64
natural_low (pos n) top h k =
    let low : n ≤ 7258118399 = omega (arith, ints, h, k) in omega (arith, low)
natural_low (negsuc n) top h k = omega arith

-- ---- the row

-- an Accept for the importer of the due job, without values and filter, or a Skipped row
abbrev pub IsDueAccept : LogState → ℤ → DueJob → Row → Type 0
IsDueAccept s now d row =
    (accepted : Acceptance)
    × (verdict_at s d.held.importer (scheduled_ask d.held.id) ≡ Ok accepted)
    × (row
    ≡ accept_row now (next_number s) s.policy_number (nodes_number s accepted.project) d.held.id
    d.held.importer (ask_text (scheduled_ask d.held.id) (Some (instant_number d))))

abbrev pub IsDueSkipped : ℤ → DueJob → Row → Type 0
IsDueSkipped now d row =
    (refusal : ℕ) × (row ≡ skipped_row now (instant_number d) refusal d.held.id)

pub record IsTicked (s : LogState) (now : ℤ) (row : Row) : Type 0 where
  pub d : DueJob
  pub first : first_due s now ≡ Some d
  pub is : IsDueAccept s now d row ⊎ IsDueSkipped now d row

ticked_by : (s : LogState) (now : ℤ) (d : DueJob) (v : Result Acceptance Refusal) (row : Row)
    → verdict_at s d.held.importer (scheduled_ask d.held.id) ≡ v
    → (tick_by s now d v).row ≡ Some row → IsDueAccept s now d row ⊎ IsDueSkipped now d row
ticked_by s now d (Ok accepted) row is h =
    inl (accepted, is, sym (ap (λ o. unwrap_or o row) h))
ticked_by s now d (Err refusal) row is h =
    inr (refusal_number refusal, sym (ap (λ o. unwrap_or o row) h))

ticked_on : (s : LogState) (now : ℤ) (due : Option DueJob) (row : Row) → first_due s now ≡ due
    → (tick_on s now due).row ≡ Some row → IsTicked s now row
ticked_on s now None row is h = absurd (grind (arith, h))
ticked_on s now (Some d) row is h = record {
  d = d;
  first = is;
  is = ticked_by s now d (verdict_at s d.held.importer (scheduled_ask d.held.id)) row refl h;
}

pub ticked : (s : LogState) (now : ℤ) (row : Row) → (tick s now).row ≡ Some row
    → IsTicked s now row
ticked s now row h = ticked_on s now (first_due s now) row refl h

-- the due job of a legal log has an importer that a row can hold
pub clean_importer : (past : List Row) (now : ℤ) (d : DueJob) → IsLegalLog past
    → first_due (log_state past) now ≡ Some d → is_clean_caller d.held.importer ≡ true
clean_importer past now d legal first =
    importers_are_clean past d.held legal (first_is_first (log_state past) now d first).held

-- and its ask comes out of the row as it went in
pub held_ask : (s : LogState) (now : ℤ) (d : DueJob) → now ≤ℤ pos 7258118399
    → first_due s now ≡ Some d
    → ask_of d.held.id (ask_text (scheduled_ask d.held.id) (Some (instant_number d)))
    ≡ Some (scheduled_ask d.held.id, Some (instant_number d))
held_ask s now d low first =
    let due = due_means now d.held d.instant (first_is_first s now d first).due in
    due_ask_is_kept (scheduled_ask d.held.id) (instant_number d)
    (natural_low d.instant now due.come low)

-- ---- it may come

module _ (past : List Row) (at : ℤ) (legal : IsLegalLog past) (some : 0 < length past)
    (clock : IsMoment at) (reading : Reading) where
  abbrev s : LogState
  s = log_state past

  abbrev now : ℤ
  now = moment s at

  abbrev is_now : IsMoment now
  is_now = moment_is past at legal clock

  ticked_may_come : (row : Row) → (tick s now).row ≡ Some row → (t : IsTicked s now row)
      → IsDueAccept s now t.d row ⊎ IsDueSkipped now t.d row → IsLegalLog (row ∷ past)
  ticked_may_come row h t (inl a) =
      let r : Row = accept_row now (next_number s) s.policy_number (nodes_number s a.0.project)
      t.d.held.id t.d.held.importer
      (ask_text (scheduled_ask t.d.held.id) (Some (instant_number t.d))) in
      subst (λ r. IsLegalLog (r ∷ past)) (sym a.2)
      (comes past r (call.Tick now) legal some refl is_now
      (ap (run_named r) (held_ask s now t.d is_now.1 t.first)) (record {
        asked = is_now;
        formed = tt;
        reading = reading;
        may_read = tt;
        added = ap (λ m. (tick s m).row) (moment_twice s at) ∙ h ∙ ap Some a.2;
      }))
  ticked_may_come row h t (inr k) =
      subst (λ r. IsLegalLog (r ∷ past)) (sym k.1)
      (comes past (skipped_row now (instant_number t.d) k.0 t.d.held.id) (call.Tick now) legal some
      refl is_now refl (record {
        asked = is_now;
        formed = tt;
        reading = reading;
        may_read = tt;
        added = ap (λ m. (tick s m).row) (moment_twice s at) ∙ h ∙ ap Some k.1;
      }))

  pub tick_may_come : (row : Row) → (tick s now).row ≡ Some row → IsLegalLog (row ∷ past)
  tick_may_come row h = let t = ticked s now row h in ticked_may_come row h t t.is

-- ---- it fires

fires_if : (skipped accepted due : Bool) → accepted ≡ true → due ≡ true
    → (skipped || (accepted && due)) ≡ true
fires_if true accepted due h k = refl
fires_if false true due h k = k
fires_if false false due h k = absurd (grind (arith, h))

abbrev DueRow : LogState → ℤ → DueJob → Result Acceptance Refusal → Type 0
DueRow s now d v = (row : Row) × ((tick_by s now d v).row ≡ Some row) × FiresJob row d

due_row_by : (s : LogState) (now : ℤ) (d : DueJob) (v : Result Acceptance Refusal)
    → ask_of d.held.id (ask_text (scheduled_ask d.held.id) (Some (instant_number d)))
    ≡ Some (scheduled_ask d.held.id, Some (instant_number d)) → DueRow s now d v
due_row_by s now d (Ok accepted) kept = (
  accept_row now (next_number s) s.policy_number (nodes_number s accepted.project) d.held.id
      d.held.importer (ask_text (scheduled_ask d.held.id) (Some (instant_number d))),
  refl,
  record { fires = ap is_due_ask kept; named = refl },
)
due_row_by s now d (Err refusal) kept = (
  skipped_row now (instant_number d) (refusal_number refusal) d.held.id,
  refl,
  record {
    fires = refl;
    named = refl;
  },
)

pub due_is_fired : NextIsLeast → DueIsFired
due_is_fired law s now d first =
    let due = (first_is_first s now d first).due in
    let end = (is_behind law now d.held d.instant due).1 in
    let kept = due_ask_is_kept (scheduled_ask d.held.id) (instant_number d)
    (natural_low d.instant last_instant end (omega (arith, ints))) in
    let r = due_row_by s now d (verdict_at s d.held.importer (scheduled_ask d.held.id)) kept in
    (r.0, ap (λ o. (tick_on s now o).row) first ∙ r.1, r.2, due_fires s now d first)

-- ---- in a legal log

accept_ticks : (row : Row) (past : List Row) (ask : RunAsk) (due : ℕ) → IsLegalLog (row ∷ past)
    → is_accept row ≡ true → ask_of row.name row.body ≡ Some (ask, Some due)
    → (tick (log_state past) row.at).row ≡ Some row
accept_ticks row past ask due legal is asks =
    let s = log_state past in
    let kind : row.kind ≡ 5 = kind_is row 5 is in
    let named : IsAdded s row (run_named row (ask_of row.name row.body)) =
    subst (IsAdded s row) (named_by s row 5 kind) (added past row 3 legal kind) in
    let adds : IsAdded s row (Some (call.Tick row.at)) =
    subst (λ o. IsAdded s row (run_named row o)) asks named in
    subst (λ at. (tick s at).row ≡ Some row) (moments_ascend row past legal).1 adds.added

not_skipped : (row made : Row) → row.kind ≡ 5 → row ≡ made → made.kind ≡ 6 → ⊥
not_skipped row made k is h =
    let six : row.kind ≡ 6 = ap (λ (r : Row). r.kind) is ∙ h in omega (arith, k, six)

abbrev due_or : ℕ → Option DueAsk → ℕ
due_or other None = other
due_or other (Some ask) = unwrap_or ask.1 other

abbrev asked_or : RunAsk → Option DueAsk → RunAsk
asked_or other None = other
asked_or other (Some ask) = ask.0

scheduled_by : (row : Row) (past : List Row) (ask : RunAsk) (due : ℕ) → IsLegalLog (row ∷ past)
    → is_accept row ≡ true → ask_of row.name row.body ≡ Some (ask, Some due)
    → (t : IsTicked (log_state past) row.at row)
    → IsDueAccept (log_state past) row.at t.d row ⊎ IsDueSkipped row.at t.d row
    → IsScheduled past row ask due
scheduled_by row past ask due legal is asks t (inl a) =
    let d = t.d in
    let body = ask_text (scheduled_ask d.held.id) (Some (instant_number d)) in
    let name : row.name ≡ d.held.id = ap (λ (r : Row). r.name) a.2 in
    let read : Some (ask, Some due) ≡ Some (scheduled_ask d.held.id, Some (instant_number d)) =
    sym asks ∙ ap (λ n. ask_of n row.body) name
    ∙ ap (λ (r : Row). ask_of d.held.id r.body) a.2
    ∙ held_ask (log_state past) row.at d legal.1.0.1 t.first in
    record {
      d = d;
      first = t.first;
      instant = ap (due_or due) read;
      named = name;
      caller = ap (λ (r : Row). row_caller r) a.2
          ∙ caller_is_kept d.held.importer (clean_importer past row.at d legal.0 t.first);
      asked = ap (asked_or ask) read;
    }
scheduled_by row past ask due legal is asks t (inr k) =
    absurd (not_skipped row (skipped_row row.at (instant_number t.d) k.0 t.d.held.id)
    (kind_is row 5 is) k.1 refl)

pub scheduled_runs : ScheduledRuns
scheduled_runs row past ask due legal is asks =
    let t = ticked (log_state past) row.at row (accept_ticks row past ask due legal is asks) in
    scheduled_by row past ask due legal is asks t t.is

-- the verdict for its caller and its ask accepts it
accepted_by : (row : Row) (past : List Row) → is_accept row ≡ true
    → (t : IsTicked (log_state past) row.at row)
    → IsDueAccept (log_state past) row.at t.d row ⊎ IsDueSkipped row.at t.d row
    → (accepted : Acceptance)
    × (verdict_at (log_state past) t.d.held.importer (scheduled_ask t.d.held.id) ≡ Ok accepted)
accepted_by row past is t (inl a) = (a.0, a.1)
accepted_by row past is t (inr k) =
    absurd (not_skipped row (skipped_row row.at (instant_number t.d) k.0 t.d.held.id)
    (kind_is row 5 is) k.1 refl)

pub due_accepted : (row : Row) (past : List Row) (ask : RunAsk) (due : ℕ)
    → IsLegalLog (row ∷ past) → is_accept row ≡ true
    → ask_of row.name row.body ≡ Some (ask, Some due)
    → (accepted : Acceptance)
    × (verdict_at (log_state past) (row_caller row) ask ≡ Ok accepted)
due_accepted row past ask due legal is asks =
    let t = ticked (log_state past) row.at row (accept_ticks row past ask due legal is asks) in
    let r = scheduled_by row past ask due legal is asks t t.is in
    let a = accepted_by row past is t t.is in
    let same : r.d ≡ t.d = ap (λ o. unwrap_or o t.d) (sym r.first ∙ t.first) in
    let caller : row_caller row ≡ t.d.held.importer =
    r.caller ∙ ap (λ (d : DueJob). d.held.importer) same in
    let asked : ask ≡ scheduled_ask t.d.held.id =
    r.asked ∙ ap (λ (d : DueJob). scheduled_ask d.held.id) same in (
      a.0,
      ap (λ c. verdict_at (log_state past) c ask) caller
          ∙ ap (verdict_at (log_state past) t.d.held.importer) asked ∙ a.1,
    )

-- ---- what a row of a schedule names

-- the job that was due then, for the instant that the row names
pub record IsNamed (past : List Row) (row : Row) (due : ℕ) : Type 0 where
  pub d : DueJob
  pub first : first_due (log_state past) row.at ≡ Some d
  pub instant : due ≡ instant_number d
  pub named : row.name ≡ d.held.id

pub named_due : (row : Row) (past : List Row) (due : ℕ) → IsLegalLog (row ∷ past) → Names row due
    → IsNamed past row due
named_due row past due legal (inl skipped) =
    let f = skipped_is_first row past legal skipped.0 in
    record { d = f.0; first = f.1; instant = sym skipped.1 ∙ f.3; named = f.2 }
named_due row past due legal (inr accepted) =
    let f = scheduled_runs row past accepted.1.0 due legal accepted.0 accepted.1.1 in
    record { d = f.d; first = f.first; instant = f.instant; named = f.named }

none_held : (held : HeldJob) → IsHeld [] held → ⊥
none_held held is = let none = is.in_projects in grind (arith, none)

held_moment : (past : List Row) (held : HeldJob) → IsLegalLog past
    → IsHeld (projects_at past) held → IsMoment held.looked
held_moment [] held legal is = absurd (none_held held is)
held_moment (last ∷ past) held legal is = (looked_is_past last past held legal is).0

-- an instant behind a moment is a number
above_zero : (looked t : ℤ) → pos 0 ≤ℤ looked → looked <ℤ t → pos (natural_of t) ≡ t
above_zero looked (pos n) h k = refl
above_zero looked (negsuc n) h k = absurd (omega (arith, ints, h, k))

-- the instant that a row names, which is behind the moment at which its job was looked at last
pub record IsTimed (past : List Row) (row : Row) (due : ℕ) : Type 0 where
  pub of : IsNamed past row due
  pub held : IsHeld (projects_at past) of.d.held
  pub looked : IsMoment of.d.held.looked
  pub behind : of.d.held.looked <ℤ pos due
  pub come : pos due ≤ℤ row.at

pub timed : NextIsLeast → (row : Row) (past : List Row) (due : ℕ) → IsLegalLog (row ∷ past)
    → Names row due → IsTimed past row due
timed law row past due legal names =
    let n = named_due row past due legal names in
    let d = n.d in
    let f = first_is_first (log_state past) row.at d n.first in
    let looked = held_moment past d.held legal.0 f.held in
    let behind = (is_behind law row.at d.held d.instant f.due).0 in
    let same : pos due ≡ d.instant =
    ap pos n.instant ∙ above_zero d.held.looked d.instant looked.0 behind in
    record {
      of = n;
      held = f.held;
      looked = looked;
      behind = subst (λ t. d.held.looked <ℤ t) (sym same) behind;
      come = subst (λ t. t ≤ℤ row.at) (sym same)
          (due_means row.at d.held d.instant f.due).come;
    }

pub fired_in_time : NextIsLeast → FiredInTime
fired_in_time law row past due legal names =
    let t = timed law row past due legal names in
    (omega (arith, ints, t.looked.0, t.behind), t.come)
