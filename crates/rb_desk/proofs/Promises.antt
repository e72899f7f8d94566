-- What is answered to a report, to the end of a door and to a save is true of the log.
use Rattle.std.proofs.Common.{◌≡◌, ◌∙◌, ◌<◌, ℤ, ℕ, [], length, reverse, subst, append-nil, true, false, Bool, Some, Ok, sym, refl, arith}
use Rattle.rb_causes.specs.Causes.{Rose}
use Rattle.rb_causes.specs.declared.row.Row.{Row}
use Rattle.rb_log.specs.Readings.{Reading}
use Rattle.rb_log.specs.Rows.{close_row}
use Rattle.rb_log.specs.Claims.{report, close_door}
use Rattle.rb_log.specs.LogState.{LogState, log_state, moment}
use Rattle.rb_log.specs.Moves.{Moved}
use Rattle.rb_log.specs.Tasks.{DoneValue}
use Rattle.rb_log.specs.Legal.{IsFormed}
use Rattle.rb_log.specs.Records.{IsTrueRecord}
use Rattle.rb_log.specs.Told.{record_of, tells_fault}
use Rattle.rb_log.specs.declared.answer.Answer.TheVariants as answer
use Rattle.rb_log.specs.declared.answer.Kept.{Kept}
use Rattle.rb_log.specs.declared.answer.Kept.TheVariants.{All, Fault, Memory}
use Rattle.rb_log.specs.declared.call.Call.TheVariants as call
use Rattle.rb_log.proofs.RightLaws.{owed_by_all}
use Rattle.rb_desk.specs.DeskState.{DeskState}
use Rattle.rb_desk.specs.Steps.{Steps, saved_after}
use Rattle.rb_desk.proofs.Stepping.{Adds, Still, adds_follow, follows_only, memory_steps, other_answer, row_steps, still_steps, still_saved}

-- nothing is read
abbrev pub no_reading : Reading
no_reading = record { policies = Ok []; jobs = Ok [] }

-- how many rows are kept where all of them are, or where no more are
abbrev pub kept_after : Kept → ℕ → ℕ → ℕ
kept_after All saved after = after
kept_after Fault saved after = saved
kept_after Memory saved after = saved

abbrev pub is_fault : Kept → Bool
is_fault All = false
is_fault Fault = true
is_fault Memory = false

reported_saved : (kept : Kept) (saved before after : ℕ)
    → kept_after kept saved after ≡ saved_after (answer.Reported kept) saved before after
reported_saved All saved before after = refl
reported_saved Fault saved before after = refl
reported_saved Memory saved before after = refl

reported_tells : (kept : Kept) → tells_fault (answer.Reported kept) ≡ true → is_fault kept ≡ true
reported_tells All h = h
reported_tells Fault h = h
reported_tells Memory h = h

reported_quiet : (kept : Kept) → tells_fault (answer.Reported kept) ≡ false → is_fault kept ≡ false
reported_quiet All h = h
reported_quiet Fault h = h
reported_quiet Memory h = h

-- ---- a report

pub reported_steps : {K : Type 0} (faults : K → ℕ) (old new : DeskState K) (done : DoneValue)
    (at : ℤ) (kept : Kept) (row : Row) → Adds faults old new row
    → new.saved ≡ kept_after kept old.saved (length new.log)
    → (is_fault kept ≡ true → Rose (faults old.keeper) (faults new.keeper))
    → (is_fault kept ≡ false → faults new.keeper ≡ faults old.keeper)
    → IsFormed (call.Report done at)
    → (report (log_state (reverse old.log)) (moment (log_state (reverse old.log)) at) done).row
    ≡ Some row
    → Steps faults old new (call.Report done at) (answer.Reported kept)
reported_steps faults old new done at kept row adds saved cause steady formed is =
    let s : LogState = log_state (reverse old.log) in
    let m : Moved = report s (moment s at) done in
    row_steps faults old new (call.Report done at) (answer.Reported kept) row adds formed
    (saved ∙ reported_saved kept old.saved (length old.log) (length new.log))
    (λ tells. cause (reported_tells kept tells))
    (λ quiet. steady (reported_quiet kept quiet))
    (other_answer (answer.Reported kept) refl)
    (adds_follow old.log old.room (call.Report done at) (answer.Reported kept) row m no_reading tt
    (owed_by_all s old.room m m.row) refl is)

-- ---- the end of a door

closed_saved : (kept : Kept) (saved before after : ℕ)
    → kept_after kept saved after ≡ saved_after (answer.DoorClosed kept) saved before after
closed_saved All saved before after = refl
closed_saved Fault saved before after = refl
closed_saved Memory saved before after = refl

closed_tells : (kept : Kept) → tells_fault (answer.DoorClosed kept) ≡ true → is_fault kept ≡ true
closed_tells All h = h
closed_tells Fault h = h
closed_tells Memory h = h

closed_quiet : (kept : Kept) → tells_fault (answer.DoorClosed kept) ≡ false → is_fault kept ≡ false
closed_quiet All h = h
closed_quiet Fault h = h
closed_quiet Memory h = h

pub closed_steps : {K : Type 0} (faults : K → ℕ) (old new : DeskState K) (door : ℕ) (at : ℤ)
    (kept : Kept)
    → Adds faults old new (close_row (moment (log_state (reverse old.log)) at) door)
    → new.saved ≡ kept_after kept old.saved (length new.log)
    → (is_fault kept ≡ true → Rose (faults old.keeper) (faults new.keeper))
    → (is_fault kept ≡ false → faults new.keeper ≡ faults old.keeper)
    → Steps faults old new (call.CloseDoor door at) (answer.DoorClosed kept)
closed_steps faults old new door at kept adds saved cause steady =
    let s : LogState = log_state (reverse old.log) in
    let row : Row = close_row (moment s at) door in
    let m : Moved = close_door s (moment s at) door in
    row_steps faults old new (call.CloseDoor door at) (answer.DoorClosed kept) row adds tt
    (saved ∙ closed_saved kept old.saved (length old.log) (length new.log))
    (λ tells. cause (closed_tells kept tells))
    (λ quiet. steady (closed_quiet kept quiet))
    (other_answer (answer.DoorClosed kept) refl)
    (adds_follow old.log old.room (call.CloseDoor door at) (answer.DoorClosed kept) row m no_reading
    tt refl refl refl)

-- ---- a save

pub saved_steps : {K : Type 0} (faults : K → ℕ) (old new : DeskState K) → new.log ≡ old.log
    → new.room ≡ old.room → faults new.keeper ≡ faults old.keeper → new.saved ≡ length new.log
    → Steps faults old new call.Save answer.Saved
saved_steps faults old new log room same saved = record {
  formed = tt;
  log = ([], log ∙ sym (append-nil old.log));
  true_record =
      subst (λ l. IsTrueRecord l old.room (record_of call.Save answer.Saved (length old.log) l))
      (sym log) (record {
        within = (omega arith, omega arith);
        answer = follows_only old.log old.room call.Save answer.Saved no_reading refl tt refl;
      });
  room = room;
  saved = saved;
  later = omega (arith, same);
  cause = λ tells. absurd (grind (arith, tells));
  steady = λ quiet. same;
  unsaved = λ fault save. absurd (other_answer answer.Saved refl fault);
}

pub unsaved_steps : {K : Type 0} (faults : K → ℕ) (old new : DeskState K)
    → Still faults old new → Rose (faults old.keeper) (faults new.keeper)
    → old.saved < length old.log → Steps faults old new call.Save answer.StoreFault
unsaved_steps faults old new still rose unsaved =
    still_steps faults old new call.Save answer.StoreFault still tt
    (still_saved old.saved (length old.log)) (λ tells. rose)
    (λ quiet. absurd (grind (arith, quiet)))
    (λ fault save. subst (λ n. n < length new.log) (sym still.saved)
    (subst (λ log. old.saved < length log) (sym still.log) unsaved))
    (record { same = refl; may = tt })

pub unkept_steps : {K : Type 0} (faults : K → ℕ) (old new : DeskState K) → Still faults old new
    → faults new.keeper ≡ faults old.keeper → Steps faults old new call.Save answer.NoMemory
unkept_steps faults old new still same = memory_steps faults old new call.Save still same tt refl
