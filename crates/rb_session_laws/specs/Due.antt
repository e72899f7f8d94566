-- A job that is due is fired by the next Tick.
use Rattle.std.specs.Prelude.{
  ◌≡◌,
  ◌⊎◌,
  ◌+◌,
  ◌-◌,
  ◌*◌,
  ℕ,
  ℤ,
  pos,
  Bool,
  true,
  false,
  List,
  slice_get,
  Contains,
  Some,
  Result,
  Ok,
  Err,
  IsTrue,
}
use Rattle.rb_causes.specs.Causes.{Rose}
use Rattle.rb_causes.specs.declared.row.Row.{Row}
use Rattle.rb_door.specs.Exchanges.{Moments}
use Rattle.rb_log.specs.Asks.{ask_text, scheduled_ask}
use Rattle.rb_log.specs.Fires.{FiresJob, IsDueFor, IsFirstDue, IsHeld, Names}
use Rattle.rb_log.specs.LogState.{LogState, has_room, log_state, moment, nodes_number}
use Rattle.rb_log.specs.Records.{IsTrueRecord, Record, before_record}
use Rattle.rb_log.specs.Rows.{accept_row, is_accept, row_caller, skipped_row}
use Rattle.rb_log.specs.Runs.{next_execution, next_number, verdict_at}
use Rattle.rb_log.specs.Sums.{leaf_count}
use Rattle.rb_log.specs.Ticks.{DueJob, instant_number}
use Rattle.rb_log.specs.declared.answer.Answer.{Answer}
use Rattle.rb_log.specs.declared.answer.Answer.TheVariants as answer
use Rattle.rb_log.specs.declared.call.Call.TheVariants.{Tick}
use Rattle.rb_plan.specs.Acceptance.{Acceptance}
use Rattle.rb_plan.specs.Refusals.{refusal_number}
use Rattle.rb_plan.specs.declared.refusal.Refusal.{Refusal}
use Rattle.rb_session_laws.specs.Origins.{deed_records}
use Rattle.rb_session_top.specs.Sessions.{Headline}
use Rattle.rb_session_top.specs.Sights.{DeskSight, Sight}
use Rattle.rb_session_top.specs.Stories.{Deeds}
use Rattle.rb_tables.specs.Tables.{most_rows}

-- ---- a job that is due

-- what the log said before the record
abbrev pub said_before : List Row → Record → LogState
said_before log r = log_state (before_record log r)

-- A job is held whose next instant, since it was looked at last, has come.
pub record IsDueAt (s : LogState) (now : ℤ) : Type 0 where
  pub d : DueJob
  pub held : IsHeld s.projects d.held
  pub due : IsDueFor now d.held d.instant

-- ---- how it is fired

-- The row that fires a job, the number that is answered with it, and for how many rows there has to
-- be room.
pub record Firing : Type 0 where
  pub row : Row
  pub told : ℕ
  pub need : ℕ

-- whether the importer may run the job, without values and filter
abbrev pub due_verdict : LogState → DueJob → Result Acceptance Refusal
due_verdict s d = verdict_at s d.held.importer (scheduled_ask d.held.id)

-- The run is accepted: the row begins the next execution, and its number is told. Room is needed
-- for this row, an Abort, and a Begin and an End of each leaf.
pub record IsAccepted (s : LogState) (now : ℤ) (d : DueJob) (f : Firing) : Type 0 where
  pub accepted : Acceptance
  pub verdict : due_verdict s d ≡ Ok accepted
  pub row : f.row
      ≡ accept_row now (next_number s) s.policy_number (nodes_number s accepted.project)
      d.held.id d.held.importer (ask_text (scheduled_ask d.held.id) (Some (instant_number d)))
  pub told : f.told ≡ next_number s
  pub need : f.need ≡ 2 + 2 * leaf_count (next_execution s now d.held.importer accepted)

-- The run is refused: the row tells which instant was skipped, and why.
pub record IsSkipped (s : LogState) (now : ℤ) (d : DueJob) (f : Firing) : Type 0 where
  pub refusal : Refusal
  pub verdict : due_verdict s d ≡ Err refusal
  pub row : f.row ≡ skipped_row now (instant_number d) (refusal_number refusal) d.held.id
  pub told : f.told ≡ 0
  pub need : f.need ≡ 1

-- The row fires the job for its instant, and says so by the verdict.
pub record IsFiringOf (s : LogState) (now : ℤ) (d : DueJob) (f : Firing) : Type 0 where
  pub fires : FiresJob f.row d
  pub instant : Names f.row (instant_number d)
  pub verdict : IsAccepted s now d f ⊎ IsSkipped s now d f

-- ---- what became of it

-- The job was fired: there was room, its row is the one that the record added, and it is answered.
pub record HasFired (log : List Row) (r : Record) (f : Firing) (has_place : Bool) : Type 0 where
  pub place : has_place ≡ true
  pub one : r.after ≡ r.before + 1
  pub row : slice_get log (r.after - 1) ≡ Some f.row
  pub says : r.answer ≡ answer.Fired f.told

-- what else may be answered: that memory was wanting, that the store failed, though there was room,
-- or that there was none
abbrev pub IsCause : Answer → Bool → Type 0
IsCause answer.NoMemory has_place = Unit {0}
IsCause answer.StoreFault has_place = has_place ≡ true
IsCause answer.Full has_place = has_place ≡ false
IsCause other has_place = ⊥

-- The job was not fired, for one of these causes, and nothing was added.
pub record IsUnfired (r : Record) (has_place : Bool) : Type 0 where
  pub same : r.after ≡ r.before
  pub cause : IsCause r.answer has_place

-- The first job that is due by its id was fired, unless there was a cause.
pub record FiresFirst (log : List Row) (room : ℕ) (r : Record) (now : ℤ) : Type 0 where
  pub d : DueJob
  pub first : IsFirstDue (said_before log r) now d
  pub due : IsDueFor now d.held d.instant
  pub firing : Firing
  pub is : IsFiringOf (said_before log r) now d firing
  pub done : HasFired log r firing (has_room (said_before log r) room firing.need firing.row)
      ⊎ IsUnfired r (has_room (said_before log r) room firing.need firing.row)

-- ---- any log

-- A record of a Tick that is true of a log, where a job is due at the moment of the Tick, or of the
-- last row where that is later, fires the first one.
abbrev pub TicksFire : Type 0
TicksFire =
    (log : List Row) (room : ℕ) (r : Record) (at : ℤ)
    → IsTrueRecord log room r → r.call ≡ Tick at
    → IsDueAt (said_before log r) (moment (said_before log r) at)
    → FiresFirst log room r (moment (said_before log r) at)

-- ---- a session

-- So does a Tick in the log of a session. As that is legal, the row names the very instant, and an
-- Accept the importer; and the store failed only where its faults rose behind the opening.
pub record FiresInSession (log : List Row) (opened ended : ℕ) (r : Record) (now : ℤ) : Type 0 where
  pub is : FiresFirst log most_rows r now
  pub instant : pos (instant_number is.d) ≡ is.d.instant
  pub importer : IsTrue (is_accept is.firing.row) →
      row_caller is.firing.row ≡ is.d.held.importer
  pub cause : r.answer ≡ answer.StoreFault → Rose opened ended

-- Each Tick that the desk was asked fires the first job that is due, on the log as it stood then.
abbrev pub DueJobsAreFired : Moments → Type 0
DueJobsAreFired may_be =
    (name : List ℕ) (draw : ℕ) (old new : Sight) (desk : DeskSight) (deeds : Deeds)
    (headline : Headline may_be name draw old new desk deeds) (r : Record) (at : ℤ)
    → Contains (deed_records deeds) r → r.call ≡ Tick at
    → IsDueAt (said_before desk.log r) (moment (said_before desk.log r) at)
    → FiresInSession desk.log headline.faults new.kept.faults r
    (moment (said_before desk.log r) at)
