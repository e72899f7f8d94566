-- Ticks, one behind another, until one does not fire.
use Rattle.std.proofs.Common.{◌≡◌, ◌∙◌, ◌<◌, ◌-◌, ℕ, suc, ℤ, List, [], ◌∷◌, ◌++◌, take, length, reverse, Bool, true, false, All, Option, Some, None, Ok, Err, option_to_list, ap, sym, refl, arith}
use Rattle.std.proofs.Math.Seq.{take-length}
use Rattle.std.proofs.lemmas.Bool.{false≢true}
use Rattle.std.proofs.lemmas.List.Elements.{All-nil, All-cons, All-head, All-tail, All-append}
use Rattle.rb_causes.specs.declared.row.Row.{Row}
use Rattle.rb_log.specs.Asks.{scheduled_ask}
use Rattle.rb_log.specs.Fires.{is_fired}
use Rattle.rb_log.specs.LogState.{LogState, log_state, moment}
use Rattle.rb_log.specs.Moves.{Moved, limited_by, full_unless}
use Rattle.rb_log.specs.Records.{Record, IsTrueAnswer, Follows, without_kept}
use Rattle.rb_log.specs.Runs.{verdict_at}
use Rattle.rb_log.specs.Tasks.{TaskValue}
use Rattle.rb_log.specs.Ticks.{DueJob, first_due, tick, tick_by, tick_on}
use Rattle.rb_log.specs.Told.{Told, Acts, record_of}
use Rattle.rb_log.specs.Acted.{Acted}
use Rattle.rb_log.specs.declared.answer.Answer.{Answer}
use Rattle.rb_log.specs.declared.answer.Answer.TheVariants as answer
use Rattle.rb_log.specs.declared.call.Call.{Call}
use Rattle.rb_log.specs.declared.call.Call.TheVariants as call
use Rattle.rb_log.proofs.TaskLaws.{tasks_are_claimed}
use Rattle.rb_work.specs.Hearing.{is_task}
use Rattle.rb_work.specs.Ticks.{AreTicks, HasTicked, IsTick}
use Rattle.rb_work.proofs.Lists.{one_more}
use Rattle.rb_work.proofs.Records.{acted_one, acted_own}
use Rattle.rb_work.proofs.Withdrawn.{untouched}

-- ---- no Tick has a task

task_or_none : (a : Answer) → ((t : TaskValue) → a ≡ answer.Task t → ⊥) → is_task a ≡ false
task_or_none (answer.Task t) h = absurd (h t refl)
task_or_none other h = refl

abbrev is_tick : Call → Bool
is_tick (call.Tick at) = true
is_tick other = false

pub tick_untasked : (at : ℤ) (old new : Told) (a : Answer) → Acts old new (call.Tick at) a
    → is_task a ≡ false
tick_untasked at old new a acts = task_or_none a never
  where
    never : (t : TaskValue) → a ≡ answer.Task t → ⊥
    never t is =
        let claimed = tasks_are_claimed new.log old.room acts.before (call.Tick at) a
        acts.true_record t is in
        false≢true (sym (ap is_tick claimed.2))

tick_rights : (at : ℤ) (old new : Told) (a : Answer) → Acts old new (call.Tick at) a
    → new.rights ≡ old.rights
tick_rights at old new a acts =
    acts.rights
    ∙ ap (λ leaves. record old.rights { leaves = leaves })
    (untouched a old.rights.leaves (tick_untasked at old new a acts))

-- ---- a Tick that fires adds a row

abbrev HasFire : Moved → Type 0
HasFire m = is_fired m.answer ≡ true → (row : Row) × (m.row ≡ Some row)

fire_by : (s : LogState) (now : ℤ) (d : DueJob) (verdict : _)
    → HasFire (tick_by s now d verdict)
fire_by s now d (Ok accepted) h = (_, refl)
fire_by s now d (Err refusal) h = (_, refl)

fire_on : (s : LogState) (now : ℤ) (due : Option DueJob) → HasFire (tick_on s now due)
fire_on s now None h = absurd (false≢true h)
fire_on s now (Some d) h =
    fire_by s now d (verdict_at s d.held.importer (scheduled_ask d.held.id)) h

fire_full : (fits : Bool) (m : Moved) → HasFire m → HasFire (full_unless fits m)
fire_full true m h = h
fire_full false m h = λ fired. absurd (false≢true fired)

fire_limited : (s : LogState) (room : ℕ) (m : Moved) (row : Option Row) (need : Option ℕ)
    → HasFire m → HasFire (limited_by s room m row need)
fire_limited s room m (Some row) (Some need) h = fire_full _ m h
fire_limited s room m (Some row) None h = h
fire_limited s room m None (Some need) h = h
fire_limited s room m None None h = h

fired_plain : (a : Answer) → is_fired (without_kept a) ≡ is_fired a
fired_plain (answer.Reported kept) = refl
fired_plain (answer.DoorClosed kept) = refl
fired_plain other = refl

module _ (at : ℤ) (room before : ℕ) (log : List Row) where
  abbrev past : LogState
  past = log_state (reverse (take before log))

  abbrev moved : Moved
  moved = tick past (moment past at)

  abbrev HasRow : Type 0
  HasRow = (row : Row) × (log ≡ take before log ++ row ∷ [])

  followed : (a : Answer) → Follows log room (record_of (call.Tick at) a before log)
      → is_fired a ≡ true → HasRow
  followed a h fired =
      let row = fire_limited past room moved moved.row moved.need
      (fire_on past (moment past at) (first_due past (moment past at)))
      (ap is_fired (sym h.says) ∙ (fired_plain a ∙ fired)) in (
        row.0,
        sym (take-length log) ∙ (h.rows
            ∙ ap (λ added. take before log ++ option_to_list added) row.1),
      )

  fired_row : (a : Answer) → IsTrueAnswer a log room (record_of (call.Tick at) a before log)
      → is_fired a ≡ true → HasRow
  fired_row answer.NoMemory h fired = absurd (false≢true fired)
  fired_row answer.StoreFault h fired = absurd (false≢true fired)
  fired_row other h fired = followed _ h fired

-- so it brings the log nearer to its room
pub tick_nearer : (at : ℤ) (old new : Told) (a : Answer) → Acts old new (call.Tick at) a
    → is_fired a ≡ true → new.room - length new.log < old.room - length old.log
tick_nearer at old new a acts fired =
    let has = fired_row at old.room acts.before new.log a acts.true_record.answer fired in
    let longer : length new.log ≡ suc acts.before =
    one_more acts.before new.log has.0 acts.true_record.within.0 has.1 in
    omega (arith, acts.room, acts.within, acts.later, longer)

-- ---- one Tick behind another

-- these Ticks were asked, and each fired
abbrev pub HasFired : ℤ → Told → Told → Type 0
HasFired at old new =
    (ticks : List Record) × All (IsTick at true) ticks × Acted old new ticks
    × (new.rights ≡ old.rights)

pub fired_more : (at : ℤ) (old mid new : Told) (a : Answer) → HasFired at old mid
    → Acts mid new (call.Tick at) a → is_fired a ≡ true → HasFired at old new
fired_more at old mid new a h acts fired =
    let r : Record = record_of (call.Tick at) a acts.before new.log in
    let is : IsTick at true r = record { asked = refl; given = fired } in (
      h.0 ++ r ∷ [],
      All-append (IsTick at true) h.0 (r ∷ []) h.1
          (All-cons (IsTick at true) r [] is (All-nil (IsTick at true))),
      acted_one h.0 old mid new (call.Tick at) a h.2 acts,
      tick_rights at mid new a acts ∙ h.3,
    )

ticks_then : (at : ℤ) (ticks : List Record) (r : Record) → All (IsTick at true) ticks
    → IsTick at false r → AreTicks at (ticks ++ r ∷ [])
ticks_then at [] r h is = is
ticks_then at (t ∷ []) r h is = (All-head (IsTick at true) t [] h, is)
ticks_then at (t ∷ u ∷ ticks) r h is = (
  All-head (IsTick at true) t (u ∷ ticks) h,
  ticks_then at (u ∷ ticks) r (All-tail (IsTick at true) t (u ∷ ticks) h) is,
)

pub has_ticked : (at : ℤ) (old mid new : Told) (a : Answer) → HasFired at old mid
    → Acts mid new (call.Tick at) a → is_fired a ≡ false
    → (ticks : List Record) × HasTicked at old new ticks
has_ticked at old mid new a h acts quiet =
    let r : Record = record_of (call.Tick at) a acts.before new.log in
    let ticks : List Record = h.0 ++ r ∷ [] in
    let acted : Acted old new ticks = acted_one h.0 old mid new (call.Tick at) a h.2 acts in (
      ticks,
      record {
        are = ticks_then at h.0 r h.1 (record { asked = refl; given = quiet });
        acted = acted;
        own = acted_own ticks old new acted;
        rights = tick_rights at mid new a acts ∙ h.3;
      },
    )
