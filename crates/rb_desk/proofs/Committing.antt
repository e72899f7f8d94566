-- A desk goes on by a change.
use Rattle.std.proofs.Common.{◌≡◌, ◌∙◌, ◌≤◌, ◌+◌, ◌^◌, ◌-◌, ℕ, ℤ, min, false, List, [], ◌∷◌, ◌++◌, length, reverse, Option, Result, Err, ap, sym, refl, inl, arith, option_to_list, length-append}
use Rattle.rb_causes.specs.Causes.{HasTrouble, has_failed}
use Rattle.rb_causes.specs.declared.row.Row.{Row}
use Rattle.rb_causes.specs.declared.trouble.Trouble.{Trouble}
use Rattle.rb_causes.specs.declared.trouble.Trouble.TheVariants.{Failed, NoMemory}
use Rattle.rb_log.specs.Rows.{counted_bytes}
use Rattle.rb_log.specs.LogState.{LogState, log_state}
use Rattle.rb_log.specs.Laws.{CallAsked, RightsFollow, RoomIsKept, TurnIsLegal}
use Rattle.rb_log.specs.Legal.{Rights, rights_of}
use Rattle.rb_log.specs.Moves.{Moved}
use Rattle.rb_log.specs.Records.{is_promised}
use Rattle.rb_log.specs.Told.{rights_after, with_task}
use Rattle.rb_log.specs.declared.call.Call.TheVariants as call
use Rattle.rb_log.specs.declared.task.OpenLeaf.{OpenLeaf}
use Rattle.rb_log.specs.declared.answer.Answer.{Answer}
use Rattle.rb_log.specs.declared.answer.Answer.TheVariants as answer
use Rattle.rb_log.specs.declared.call.Call.{Call}
use Rattle.rb_tables.specs.Changes.{Comes, IsEffect, answer_of}
use Rattle.rb_desk.specs.DeskState.{DeskState, IsDesk}
use Rattle.rb_desk.specs.Ledgers.{IsLedger, LedgerState}
use Rattle.rb_desk.specs.Settling.{CanCommit}
use Rattle.rb_desk.specs.Steps.{Steps, answer_to}
use Rattle.rb_tables.specs.Tables.{IsCovered, IsTabled, AreLogTables}
use Rattle.rb_tables.specs.declared.change.Change.{Change}
use Rattle.rb_tables.specs.declared.change.TableEffect.{TableEffect}
use Rattle.rb_tables.specs.declared.tables.Tables.{Tables}
use Rattle.rb_desk.proofs.Growing.{Grows, desk_of, grows, grown_desk, grown_tabled}
use Rattle.rb_desk.proofs.Promised.{asked_on}
use Rattle.rb_desk.proofs.Stepping.{fault_steps, turn_fits, wanting_steps}

-- the row of a change comes
pub change_comes : (t : Tables) (past : List Row) (row : Row) (e : TableEffect) (at : ℤ)
    (counted : ℕ) → IsTabled t past → IsEffect past row e → at ≡ row.at
    → counted ≡ min (counted_bytes row) (2 ^ 64 - 1) → Comes t at counted e past row
change_comes t past row e at counted tabled is at_is counted_is =
    record { tabled = tabled; at_is = at_is; counted_is = counted_is; effect = is }

-- ---- what is open behind it

task_le : (a : Answer) (leaves : List OpenLeaf) → length (with_task a leaves) ≤ length leaves + 1
task_le (answer.Task t) leaves = omega (arith, length-append leaves (t.claimed ∷ []))
task_le other leaves = omega arith

unpromised_rights : (c : Call) (a : Answer) (r : Rights) → is_promised c ≡ false
    → rights_after c a r ≡ record r { leaves = with_task a r.leaves }
unpromised_rights (call.Report done at) a r h = absurd (grind (arith, h))
unpromised_rights (call.CloseDoor door at) a r h = absurd (grind (arith, h))
unpromised_rights other a r h = refl

change_asked : {K : Type 0} (rows : K → Option (List Row)) (d : DeskState K) (change : Change)
    (c : Call) (can : CanCommit d change c) → IsDesk rows d
    → CallAsked (reverse d.log) c can.is.rules.0.reading
change_asked rows d change c can desk =
    asked_on rows d c can.is.rules.0.reading desk can.is.may can.is.formed
    can.is.rules.0.may_read

opens_few : RightsFollow → {K : Type 0} (rows : K → Option (List Row)) (d : DeskState K)
    (change : Change) (c : Call) → CanCommit d change c → IsDesk rows d
    → let s : LogState = log_state (reverse d.log) in
    let after : LogState = log_state (change.row ∷ reverse d.log) in
    length after.leaves + length after.doors ≤ length s.leaves + length s.doors + 1
opens_few law rows d change c can desk =
    let past : List Row = reverse d.log in
    let r : Rights = rights_of (log_state past) in
    let a : Answer = answer_of change.outcome in
    let turn = turn_fits d.log d.room c change can.is.rules.0 can.fit in
    let is : rights_of (log_state (change.row ∷ past)) ≡ record r { leaves = with_task a r.leaves }
    =
    ap (λ (m : Moved). rights_of (log_state (option_to_list m.row ++ past))) (sym turn)
    ∙ law past d.room c can.is.rules.0.reading (change_asked rows d change c can desk)
    ∙ ap (λ (m : Moved). rights_after c m.answer r) turn
    ∙ unpromised_rights c a r can.is.unpromised in
    let leaves = ap (λ (x : Rights). length x.leaves) is in
    let doors = ap (λ (x : Rights). length x.doors) is in
    omega (arith, leaves, doors, task_le a r.leaves)

-- ---- the desk behind it

change_grows : TurnIsLegal → RoomIsKept → {K : Type 0} (rows : K → Option (List Row))
    (d : DeskState K) (change : Change) (c : Call) → CanCommit d change c → IsDesk rows d
    → Grows d.log d.room change.row
change_grows legal kept rows d change c can desk =
    grows legal kept d.log d.room c can.is.rules.0.reading change.row
    (change_asked rows d change c can desk) desk.within
    (ap (λ (m : Moved). m.row) (turn_fits d.log d.room c change can.is.rules.0 can.fit))

pub committed_desk : TurnIsLegal → RoomIsKept → RightsFollow → {K : Type 0}
    (rows : K → Option (List Row)) (old new : LedgerState K) (t after : Tables) (room more : ℕ)
    (change : Change) (c : Call) → CanCommit (desk_of old room) change c
    → IsDesk rows (desk_of old room) → IsTabled t (reverse old.log)
    → new.log ≡ old.log ++ change.row ∷ [] → new.saved ≡ length new.log → IsLedger rows new
    → more ≡ length t.leaves.items + length t.doors.items + 1 → more ≤ new.spare
    → AreLogTables after (log_state (change.row ∷ reverse old.log))
    → IsDesk rows (desk_of new room) × IsTabled after (reverse new.log)
    × IsCovered after new.spare
committed_desk legal kept rights rows old new t after room more change c can desk tabled log saved
    held more_is low says =
    let d = desk_of old room in
    let past : List Row = reverse old.log in
    let row : Row = change.row in
    let grown = change_grows legal kept rows d change c can desk in (
      grown_desk rows old new room row desk held log (inl saved) grown,
      grown_tabled after old.log new.log room row log says grown desk.bounded,
      omega (
        arith,
        opens_few rights rows d change c can desk,
        ap length says.leaves,
        ap length says.doors,
        ap length tabled.says.leaves,
        ap length tabled.says.doors,
        more_is,
        low,
      ),
    )

-- ---- where the row was not added

pub untold_steps : {K : Type 0} (faults : K → ℕ) (old new : DeskState K) (c : Call)
    (change : Change) {A : Type 0} (r : Result A Trouble) (trouble : Trouble) → r ≡ Err trouble
    → new.log ≡ old.log → new.saved ≡ old.saved → new.room ≡ old.room
    → HasTrouble (faults old.keeper) (faults new.keeper) r → CanCommit old change c
    → Steps faults old new c (answer_to trouble)
untold_steps faults old new c change r Failed is log saved room cause can =
    fault_steps faults old new c change
    (record { log = log; saved = saved; room = room; later = cause.later }) (cause.failed is)
    can.is can.fit
untold_steps faults old new c change r NoMemory is log saved room cause can =
    wanting_steps faults old new c change
    (record { log = log; saved = saved; room = room; later = cause.later })
    (cause.steady (ap has_failed is)) can.is
