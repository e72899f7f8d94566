-- A desk that begins behind the rows that its keeper holds.
use Rattle.std.proofs.Common.{◌≡◌, ◌∙◌, ◌≤◌, ◌+◌, ℕ, ℤ, List, [], ◌∷◌, ◌++◌, length, reverse, Option, ap, sym, subst, refl, arith, length-append}
use Rattle.std.proofs.lemmas.List.{length-reverse}
use Rattle.rb_causes.specs.declared.row.Row.{Row}
use Rattle.rb_log.specs.Laws.{OpeningSettles}
use Rattle.rb_log.specs.Legal.{IsLegalLog, MayCome}
use Rattle.rb_log.specs.LogState.{log_state, moment, moment_by, owed}
use Rattle.rb_log.specs.Restarts.{IsOpeningAsked, OpeningIsLegal}
use Rattle.rb_log.specs.Rows.{opened_row}
use Rattle.rb_log.specs.Sums.{numbers_below}
use Rattle.rb_log.proofs.Numbers.{below_length}
use Rattle.rb_changes.specs.declared.opening.Opening.{Opening}
use Rattle.rb_tables.specs.Tables.{AreLogTables, IsCovered, IsTabled, most_rows}
use Rattle.rb_tables.specs.declared.tables.Tables.{Tables}
use Rattle.rb_desk.specs.Beginning.{IsNextOpening, IsReady, MayBegin, row_of}
use Rattle.rb_desk.specs.DeskState.{IsDesk}
use Rattle.rb_desk.specs.Ledgers.{IsLedger, LedgerState}
use Rattle.rb_desk.specs.Opening.{asked_of}
use Rattle.rb_desk.proofs.Growing.{desk_of, few_rows, newest, none_waits}

-- ---- before it begins

same_opening : (x y : ℤ) (d e w v n m : ℕ) → x ≡ y → d ≡ e → w ≡ v → n ≡ m
    → opened_row x d w n ≡ opened_row y e v m
same_opening x y d e w v n m at doors workers draw = rw (at, doors, workers, draw) refl

pub ready : OpeningIsLegal → (log : List Row) (t : Tables) (o : Opening)
    (doors workers draw room : ℕ) (at : ℤ) → IsTabled t (reverse log)
    → IsOpeningAsked doors workers draw at → IsNextOpening t doors workers draw at o
    → length log + 1 + doors ≤ room → room ≤ most_rows
    → IsReady log (asked_of doors workers draw room at) t o
ready law log t o doors workers draw room at tabled asked next fits bounded =
    let past : List Row = reverse log in
    let count : length o.doors.items ≡ doors =
    ap length next.doors_are ∙ below_length doors in
    let at_is : o.at ≡ moment (log_state past) at =
    next.at_is ∙ ap (λ l. moment_by l at) tabled.says.last in
    let same : row_of o ≡ opened_row (moment (log_state past) at) doors workers draw =
    same_opening _ _ _ _ _ _ _ _ at_is count next.workers_are next.draw_is in record {
      may = record {
        tabled = tabled;
        is = record {
          opened = refl;
          at = refl;
          doors = next.doors_are ∙ ap numbers_below (sym count);
          workers = refl;
          draw = refl;
          checks = next.checks;
        };
        may = subst (MayCome (log_state past)) (sym same)
            ((law past doors workers draw at tabled.legal asked).1);
        within = omega (arith, fits, count);
        bounded = bounded;
      };
      row = same;
    }

-- ---- once it has begun

pub begun_desk : OpeningSettles → {K : Type 0} (rows : K → Option (List Row))
    (old new : LedgerState K) (t after : Tables) (o : Opening) (room : ℕ)
    → MayBegin old.log t o room
    → new.log ≡ old.log ++ row_of o ∷ [] → new.saved ≡ length new.log → IsLedger rows new
    → length o.doors.items ≤ new.spare
    → AreLogTables after (log_state (row_of o ∷ reverse old.log))
    → IsDesk rows (desk_of new room) × IsTabled after (reverse new.log)
    × IsCovered after new.spare
begun_desk law rows old new t after o room may log saved held spare says =
    let row : Row = row_of o in
    let past : List Row = reverse old.log in
    let back : row ∷ past ≡ reverse new.log = sym (newest old.log row) ∙ sym (ap reverse log) in
    let settled = law row past refl in
    let owes : owed (log_state (row ∷ past)) ≡ length o.doors.items = settled.2 in
    let many : length new.log ≡ length old.log + 1 =
    ap length log ∙ length-append old.log (row ∷ []) in
    let within : length new.log + owed (log_state (row ∷ past)) ≤ room =
    omega (arith, many, owes, may.within) in
    let legal : IsLegalLog (row ∷ past) = (may.tabled.legal, may.may) in
    let leaves : length after.leaves.items ≡ 0 = ap length (says.leaves ∙ settled.1) in
    let doors : length after.doors.items ≡ length o.doors.items =
    ap length says.doors ∙ below_length (length o.doors.items) in (
      record {
        legal = subst IsLegalLog back legal;
        opened = omega (arith, many);
        within = subst (λ (x : List Row). length new.log + owed (log_state x) ≤ room) back within;
        bounded = may.bounded;
        saved = held.saved;
        kept = held.kept;
        waiting = none_waits new.saved new.log saved;
      },
      subst (IsTabled after) back (record {
        says = says;
        legal = legal;
        few = few_rows (length (row ∷ past)) (owed (log_state (row ∷ past))) room
            (omega (arith, length-reverse old.log, many, within)) may.bounded;
      }),
      omega (arith, leaves, doors, spare),
    )
