-- What a Report adds, and what it is answered.
use Rattle.std.proofs.Common.{◌≡◌, ◌∙◌, ℕ, ℤ, List, ◌++◌, take, reverse, option_to_list, ap, sym, refl, arith}
use Rattle.std.proofs.Math.Seq.{take-length}
use Rattle.rb_causes.specs.declared.row.Row.{Row}
use Rattle.rb_log.specs.Tasks.{DoneValue}
use Rattle.rb_log.specs.Executions.{executions, execution_among}
use Rattle.rb_log.specs.LogState.{log_state, moment}
use Rattle.rb_log.specs.Moves.{Moved}
use Rattle.rb_log.specs.Claims.{reported_end_row, report}
use Rattle.rb_log.specs.Records.{IsTrueAnswer, Follows, without_kept}
use Rattle.rb_log.specs.Told.{record_of}
use Rattle.rb_log.specs.declared.answer.Answer.{Answer}
use Rattle.rb_log.specs.declared.answer.Answer.TheVariants as answer
use Rattle.rb_log.specs.declared.answer.Kept.{Kept}
use Rattle.rb_log.specs.declared.answer.Kept.TheVariants.{All}
use Rattle.rb_log.specs.declared.call.Call.TheVariants.{Report}
use Rattle.rb_log.proofs.RightLaws.{unlimited}

-- its answer tells what became of the append, and the End stands behind the rows that there were,
-- if the execution is there
pub record WasReported (done : DoneValue) (at : ℤ) (a : Answer) (before : ℕ) (log : List Row)
    : Type 0 where
  pub kept : Kept
  pub now : ℤ
  pub answer_is : a ≡ answer.Reported kept
  pub log_is : log
      ≡ take before log
      ++ option_to_list
      (reported_end_row now done
      (execution_among done.claimed.execution (executions (reverse (take before log)))))

reported_plain : (a : Answer) → without_kept a ≡ answer.Reported All
    → (kept : Kept) × (a ≡ answer.Reported kept)
reported_plain (answer.Reported kept) h = (kept, refl)
reported_plain (answer.DoorClosed kept) h = absurd (let never : ⊥ = cc in never)
reported_plain other h = (All, h)

module _ (done : DoneValue) (room before : ℕ) (at : ℤ) (log : List Row) where
  abbrev past : List Row
  past = reverse (take before log)

  abbrev now : ℤ
  now = moment (log_state past) at

  abbrev moved : Moved
  moved = report (log_state past) now done

  followed : (a : Answer) → Follows log room (record_of (Report done at) a before log)
      → WasReported done at a before log
  followed a h =
      let owed = unlimited (log_state past) room moved refl in
      let word = reported_plain a (h.says ∙ ap (λ (m : Moved). m.answer) owed) in
      record {
        kept = word.0;
        now = now;
        answer_is = word.1;
        log_is =
            sym (take-length log) ∙ h.rows
            ∙ ap (λ (m : Moved). take before log ++ option_to_list m.row) owed;
      }

  pub was_reported : (a : Answer)
      → IsTrueAnswer a log room (record_of (Report done at) a before log)
      → WasReported done at a before log
  was_reported answer.NoMemory h = absurd (grind (arith, h.may))
  was_reported answer.StoreFault h = absurd (grind (arith, h.may.unpromised))
  was_reported other h = followed _ h
