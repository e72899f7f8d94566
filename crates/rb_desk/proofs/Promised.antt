-- A desk goes on by a row for which there is memory and room: an End or a Close.
use Rattle.std.proofs.Common.{◌≡◌, ◌∙◌, ◌≤◌, ◌<◌, ◌+◌, ℕ, ℤ, suc, true, false, List, [], ◌∷◌, ◌++◌, inl, inr, length, reverse, Contains, Option, None, Some, Result, IsTrue, option_to_list, Ok, Err, OnOk, OnErr, ap, sym, subst, refl, arith, unwrap_or}
use Rattle.std.proofs.lemmas.List.{length-reverse}
use Rattle.rb_causes.specs.Causes.{HasTrouble, Rose}
use Rattle.rb_causes.specs.declared.row.Row.{Row}
use Rattle.rb_causes.specs.declared.trouble.Trouble.{Trouble}
use Rattle.rb_causes.specs.declared.trouble.Trouble.TheVariants.{Failed, NoMemory}
use Rattle.rb_log.specs.Readings.{Reading}
use Rattle.rb_log.specs.Rows.{close_row, end_row}
use Rattle.rb_log.specs.Claims.{reported_end_row, leaf_number_in, report}
use Rattle.rb_log.specs.Executions.{Execution}
use Rattle.rb_log.specs.Moves.{Moved}
use Rattle.rb_log.specs.Sums.{without_leaf}
use Rattle.rb_log.specs.Tasks.{DoneValue, is_ending}
use Rattle.rb_log.specs.LogState.{LogState, execution_at, log_state, moment}
use Rattle.rb_log.specs.Laws.{CallAsked, RightsFollow, RoomIsKept, TurnIsLegal}
use Rattle.rb_log.specs.Legal.{IsFormed, Rights, rights_of}
use Rattle.rb_log.specs.Turn.{MayRead, turn_of}
use Rattle.rb_log.specs.declared.call.Call.{Call}
use Rattle.rb_log.specs.declared.call.Call.TheVariants as call
use Rattle.rb_log.proofs.RightLaws.{owed_by_all}
use Rattle.rb_desk.specs.DeskState.{DeskState, IsDesk, may_wait}
use Rattle.rb_desk.specs.Ledgers.{IsLedger, LedgerState}
use Rattle.rb_desk.specs.Settling.{MayAskOn}
use Rattle.rb_desk.specs.Steps.{kept_of}
use Rattle.rb_tables.specs.Tables.{IsCovered, IsTabled, AreLogTables}
use Rattle.rb_tables.specs.declared.tables.Tables.{Tables}
use Rattle.rb_desk.proofs.Growing.{Grows, MayStand, desk_of, grows, grown_desk, grown_tabled}
use Rattle.rb_desk.proofs.Promises.{is_fault, kept_after, no_reading}
use Rattle.rb_desk.proofs.Shrinking.{fewer_doors, fewer_leaves}

-- what became of an append tells what is kept
pub stands_by : {K : Type 0} (old new : LedgerState K) (row : Row) (r : Result (Unit {0}) Trouble)
    → may_wait row ≡ true → OnOk r (new.saved ≡ length new.log)
    → OnErr r (new.saved ≡ old.saved) → MayStand old new row
stands_by old new row (Ok a) waits ok err = inl ok
stands_by old new row (Err e) waits ok err = inr (err, waits)

pub kept_by : (saved whole : ℕ) (now : ℕ) (r : Result (Unit {0}) Trouble)
    → OnOk r (now ≡ whole) → OnErr r (now ≡ saved) → now ≡ kept_after (kept_of r) saved whole
kept_by saved whole now (Ok a) ok err = ok
kept_by saved whole now (Err Failed) ok err = err
kept_by saved whole now (Err NoMemory) ok err = err

pub rose_by : (before now : ℕ) (r : Result (Unit {0}) Trouble) → HasTrouble before now r
    → is_fault (kept_of r) ≡ true → Rose before now
rose_by before now (Ok a) cause h = absurd (grind (arith, h))
rose_by before now (Err Failed) cause h = cause.failed refl
rose_by before now (Err NoMemory) cause h = absurd (grind (arith, h))

-- and where none is told the count stays
pub steady_by : (before now : ℕ) (r : Result (Unit {0}) Trouble) → HasTrouble before now r
    → is_fault (kept_of r) ≡ false → now ≡ before
steady_by before now (Ok a) cause h = cause.steady refl
steady_by before now (Err Failed) cause h = absurd (grind (arith, h))
steady_by before now (Err NoMemory) cause h = cause.steady refl

-- a call on a desk
pub asked_on : {K : Type 0} (rows : K → Option (List Row)) (d : DeskState K) (c : Call)
    (reading : Reading) → IsDesk rows d → MayAskOn d.log c → IsFormed c
    → MayRead (log_state (reverse d.log)) c reading → CallAsked (reverse d.log) c reading
asked_on rows d c reading desk may formed read = record {
  legal = desk.legal;
  opened = subst (λ n. 0 < n) (sym (length-reverse d.log)) desk.opened;
  may = may;
  formed = formed;
  read = read;
}

-- one row fewer may still come
abbrev pub Shrinks : List Row → Row → Type 0
Shrinks past row =
    let s : LogState = log_state past in
    let after : LogState = log_state (row ∷ past) in
    suc (length after.leaves + length after.doors) ≤ length s.leaves + length s.doors

shrunk_cover : (t after : Tables) (past : List Row) (row : Row) (spare left : ℕ)
    → AreLogTables t (log_state past) → AreLogTables after (log_state (row ∷ past)) → Shrinks past row
    → IsCovered t spare → spare ≤ left + 1 → IsCovered after left
shrunk_cover t after past row spare left was says shrinks covered low =
    omega (
      arith,
      ap length was.leaves,
      ap length was.doors,
      ap length says.leaves,
      ap length says.doors,
      shrinks,
      covered,
      low,
    )

-- What is known where a row that may wait was added.
pub record Promised {K : Type 0} (rows : K → Option (List Row)) (old new : LedgerState K)
    (t after : Tables) (room : ℕ) (row : Row) (r : Result (Unit {0}) Trouble) : Type 0 where
  pub desk : IsDesk rows (desk_of old room)
  pub tabled : IsTabled t (reverse old.log)
  pub covered : IsCovered t old.spare
  pub grown : Grows old.log room row
  pub waits : may_wait row ≡ true
  pub shrinks : Shrinks (reverse old.log) row
  pub log : new.log ≡ old.log ++ row ∷ []
  pub ok : OnOk r (new.saved ≡ length new.log)
  pub err : OnErr r (new.saved ≡ old.saved)
  pub spare : old.spare ≤ new.spare + 1
  pub held : IsLedger rows new
  pub says : AreLogTables after (log_state (row ∷ reverse old.log))

pub promised_desk : {K : Type 0} (rows : K → Option (List Row)) (old new : LedgerState K)
    (t after : Tables) (room : ℕ) (row : Row) (r : Result (Unit {0}) Trouble)
    → Promised rows old new t after room row r
    → IsDesk rows (desk_of new room) × IsTabled after (reverse new.log)
    × IsCovered after new.spare
promised_desk rows old new t after room row r p = (
  grown_desk rows old new room row p.desk p.held p.log
      (stands_by old new row r p.waits p.ok p.err) p.grown,
  grown_tabled after old.log new.log room row p.log p.says p.grown p.desk.bounded,
  shrunk_cover t after (reverse old.log) row old.spare new.spare p.tabled.says p.says p.shrinks
      p.covered p.spare,
)

-- ---- the end of a door

pub close_grows : TurnIsLegal → RoomIsKept → {K : Type 0} (rows : K → Option (List Row))
    (d : DeskState K) (door : ℕ) (at : ℤ) (row : Row) → IsDesk rows d
    → MayAskOn d.log (call.CloseDoor door at)
    → row ≡ close_row (moment (log_state (reverse d.log)) at) door → Grows d.log d.room row
close_grows legal kept rows d door at row desk may is =
    grows legal kept d.log d.room (call.CloseDoor door at) no_reading row
    (asked_on rows d (call.CloseDoor door at) no_reading desk may tt tt) desk.within
    (ap Some (sym is))

pub close_shrinks : (past : List Row) (now : ℤ) (door : ℕ)
    → Contains (log_state past).doors door → Shrinks past (close_row now door)
close_shrinks past now door has = omega (arith, fewer_doors door (log_state past).doors has)

-- ---- a report

pub end_grows : TurnIsLegal → RoomIsKept → {K : Type 0} (rows : K → Option (List Row))
    (d : DeskState K) (done : DoneValue) (at : ℤ) (row : Row) → IsDesk rows d
    → MayAskOn d.log (call.Report done at) → IsTrue (is_ending done.ending)
    → (report (log_state (reverse d.log)) (moment (log_state (reverse d.log)) at) done).row
    ≡ Some row
    → Grows d.log d.room row
end_grows legal kept rows d done at row desk may formed is =
    let s : LogState = log_state (reverse d.log) in
    let m : Moved = report s (moment s at) done in
    grows legal kept d.log d.room (call.Report done at) no_reading row
    (asked_on rows d (call.Report done at) no_reading desk may formed tt) desk.within
    (ap (λ (x : Moved). x.row) (owed_by_all s d.room m m.row) ∙ is)

-- what the law of rights says of a report
pub end_shrinks : RightsFollow → {K : Type 0} (rows : K → Option (List Row))
    (d : DeskState K) (done : DoneValue) (at : ℤ) (row : Row) → IsDesk rows d
    → MayAskOn d.log (call.Report done at) → IsTrue (is_ending done.ending)
    → (report (log_state (reverse d.log)) (moment (log_state (reverse d.log)) at) done).row
    ≡ Some row
    → Shrinks (reverse d.log) row
end_shrinks law rows d done at row desk may formed is =
    let past : List Row = reverse d.log in
    let s : LogState = log_state past in
    let m : Moved = report s (moment s at) done in
    let turn : (turn_of no_reading past d.room (call.Report done at)).row ≡ Some row =
    ap (λ (x : Moved). x.row) (owed_by_all s d.room m m.row) ∙ is in
    let rights : rights_of (log_state (row ∷ past))
    ≡ record (rights_of s) { leaves = without_leaf done.claimed s.leaves } =
    ap (λ o. rights_of (log_state (option_to_list o ++ past))) (sym turn)
    ∙ law past d.room (call.Report done at) no_reading
    (asked_on rows d (call.Report done at) no_reading desk may formed tt) in
    let leaves = ap (λ (r : Rights). length r.leaves) rights in
    let doors = ap (λ (r : Rights). length r.doors) rights in
    omega (arith, leaves, doors, fewer_leaves done.claimed s.leaves may.1)

pub end_is : (now : ℤ) (done : DoneValue) (o : Option Execution) (row : Row)
    → reported_end_row now done o ≡ Some row
    → (n : ℕ) × (row ≡ end_row now done.claimed.execution n done.ending)
end_is now done None row h = absurd (grind (arith, h))
end_is now done (Some e) row h = (leaf_number_in e done.claimed.leaf, sym (ap (λ o. unwrap_or o row) h))

pub end_waits : (s : LogState) (now : ℤ) (done : DoneValue) (row : Row)
    → (report s now done).row ≡ Some row → may_wait row ≡ true
end_waits s now done row h =
    ap may_wait ((end_is now done (execution_at s done.claimed.execution) row h).1)
