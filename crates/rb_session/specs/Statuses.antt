-- How a session that served its callers ends.
use Rattle.std.specs.Prelude.{
  ◌≡◌,
  ℕ,
  Bool,
  true,
  false,
  not,
  ◌||◌,
  List,
  Option,
  Some,
  None,
  if◌then◌else◌,
}
use Rattle.std.specs.List.{flat_map, list_any}
use Rattle.rb_causes.specs.Sinks.{SinkState}
use Rattle.rb_command.specs.Lines.{memory_line}
use Rattle.rb_log.specs.declared.answer.Answer.{Answer}
use Rattle.rb_log.specs.declared.answer.Answer.TheVariants as answer
use Rattle.rb_work.specs.declared.pumped.Pumped.{Pumped}
use Rattle.rb_work.specs.declared.pumped.Pumped.TheVariants as pumped
use Rattle.rb_api.specs.declared.ended.Ended.{Ended}
use Rattle.rb_api.specs.declared.ended.Ended.TheVariants as ended
use Rattle.rb_door.specs.Exchanges.{ended_of}
use Rattle.rb_door.specs.Guests.{Parting, AskingFailed, TooMany}
use Rattle.rb_session.specs.Courses.{Course}
use Rattle.rb_session.specs.Fetching.{EndsBy}
use Rattle.rb_session.specs.Lines.{Stop, stop_with, store_line, line_line, callers_line}
use Rattle.rb_session.specs.Visits.{Stay, stay_exchanges}
use Rattle.rb_session.specs.declared.farewell.CallersEnd.{CallersEnd}
use Rattle.rb_session.specs.declared.farewell.Farewell.{Farewell}
use Rattle.rb_session.specs.declared.saving.Saving.{Saving}
use Rattle.rb_session.specs.declared.saving.Saving.TheVariants as saving

-- ---- how the callers ended

abbrev pub is_line_fault : Ended → Bool
is_line_fault ended.LineFault = true
is_line_fault other = false

abbrev pub is_wanting : Ended → Bool
is_wanting ended.NoMemory = true
is_wanting other = false

abbrev pub asking_failed : Parting → Bool
asking_failed AskingFailed = true
asking_failed other = false

abbrev pub one_too_many : Parting → Bool
one_too_many TooMany = true
one_too_many other = false

-- an exchange with one of these callers ended so
abbrev pub any_ended : (Ended → Bool) → List Stay → Bool
any_ended is_so stays = list_any (λ e. is_so (ended_of e)) (flat_map stay_exchanges stays)

-- the line failed, with a caller or when it was asked for the next one; it wanted memory for a
-- reply; there was one caller too many
abbrev pub callers_end : List Stay → Parting → CallersEnd
callers_end stays parting = record {
  line_failed = asking_failed parting || any_ended is_line_fault stays;
  line_wanted = any_ended is_wanting stays;
  too_many = one_too_many parting;
}

-- what is told of a course
abbrev pub farewell_of : Course → Farewell
farewell_of c = record { callers = callers_end c.stays c.parting; last = c.last.said }

-- ---- how the session ends

-- what the answer to Save says; what Save never answers stands with want of memory
abbrev pub saving_of : Answer → Saving
saving_of answer.Saved = saving.Saved
saving_of answer.StoreFault = saving.StoreFault
saving_of other = saving.NoMemory

abbrev pub is_store_fault : Pumped → Bool
is_store_fault pumped.StoreFault = true
is_store_fault other = false

-- all that was begun has ended
abbrev pub is_over : Pumped → Bool
is_over pumped.Closed = true
is_over other = false

abbrev pub is_unsaved : Saving → Bool
is_unsaved saving.StoreFault = true
is_unsaved other = false

abbrev pub is_saved : Saving → Bool
is_saved saving.Saved = true
is_saved other = false

-- how the session ends, by what is told of its course and of its last Save: a fault of the line;
-- of the store, in the last pump or in Save; want of memory; one caller too many; or well
abbrev pub farewell_end : Farewell → Saving → Option Stop
farewell_end f saved =
    if f.callers.line_failed then Some (stop_with 5 line_line)
    else if is_store_fault f.last || is_unsaved saved then Some (stop_with 6 store_line)
    else if f.callers.line_wanted || (not (is_over f.last) || not (is_saved saved))
    then Some (stop_with 7 memory_line)
    else if f.callers.too_many then Some (stop_with 11 callers_line)
    else None

abbrev pub course_end : Course → Answer → Option Stop
course_end c saved = farewell_end (farewell_of c) (saving_of saved)

-- the status and the line are those of this end; without one the status is 0, and nothing is told
abbrev pub EndsAsTold : Option Stop → ℕ → SinkState → SinkState → Type 0
EndsAsTold None status before after = (status ≡ 0) × (after ≡ before)
EndsAsTold (Some stop) status before after = EndsBy stop status before after
