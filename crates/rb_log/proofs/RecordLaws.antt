-- Records stay true as the log grows.
use Rattle.std.proofs.Common.{◌≡◌, ◌∙◌, ◌≤◌, ℕ, List, ◌++◌, take, length, reverse, ap, sym, subst, arith, Bool, true, false, option_to_list, is_some, IsTrue, length-append}
use Rattle.std.proofs.lemmas.List.{take-append-le}
use Rattle.rb_causes.specs.declared.row.Row.{Row}
use Rattle.rb_log.specs.Readings.{Reading}
use Rattle.rb_log.specs.LogState.{log_state}
use Rattle.rb_log.specs.Turn.{MayRead, turn_of}
use Rattle.rb_log.specs.Records.{Record, MayReadAt, IsTrueAnswer, StaysAtFault, Follows, WouldAdd, without_kept}
use Rattle.rb_log.specs.Laws.{TruthStays}
use Rattle.rb_log.specs.declared.answer.Answer.{Answer}
use Rattle.rb_log.specs.declared.answer.Answer.TheVariants as answer

module _ (log more : List Row) (room : ℕ) (r : Record) (order : r.before ≤ r.after)
    (within : r.after ≤ length log) where
  front : take r.before (log ++ more) ≡ take r.before log
  front = take-append-le r.before log more (omega (arith, order, within))

  reads_stay : (reading : Reading) → MayReadAt reading log r → MayReadAt reading (log ++ more) r
  reads_stay reading h =
      subst (λ rows. MayRead (log_state (reverse rows)) r.call reading) (sym front) h

  follows_stays : Follows log room r → Follows (log ++ more) room r
  follows_stays h = record {
    reading = h.reading;
    may_read = reads_stay h.reading h.may_read;
    says = subst (λ rows. without_kept r.answer
        ≡ (turn_of h.reading (reverse rows) room r.call).answer) (sym front) h.says;
    rows =
        take-append-le r.after log more within ∙ h.rows
        ∙ ap (λ rows. rows ++ option_to_list (turn_of h.reading (reverse rows) room r.call).row)
        (sym front);
  }

  would_add_stays : WouldAdd log room r → WouldAdd (log ++ more) room r
  would_add_stays h = record {
    reading = h.reading;
    may_read = reads_stay h.reading h.may_read;
    adds = subst (λ rows. IsTrue (is_some (turn_of h.reading (reverse rows) room r.call).row))
        (sym front) h.adds;
    unpromised = h.unpromised;
  }

  fault_stays : (save : Bool) → StaysAtFault save log room r → StaysAtFault save (log ++ more) room r
  fault_stays true h = h
  fault_stays false h = record { same = h.same; may = would_add_stays h.may }

  answer_stays : (a : Answer) → IsTrueAnswer a log room r → IsTrueAnswer a (log ++ more) room r
  answer_stays answer.NoMemory h = h
  answer_stays answer.StoreFault h = fault_stays _ h
  answer_stays other h = follows_stays h

pub truth_stays : TruthStays
truth_stays log more room r h = record {
  within = (h.within.0, omega (arith, h.within.1, length-append log more));
  answer = answer_stays log more room r h.within.0 h.within.1 r.answer h.answer;
}
