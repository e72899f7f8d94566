-- A desk goes on by a row that a turn adds.
use Rattle.std.proofs.Common.{◌≡◌, ◌∙◌, ◌≤◌, ◌<◌, ◌+◌, ◌^◌, ℕ, List, [], ◌∷◌, ◌++◌, ◌⊎◌, inl, inr, true, refl, drop, length, reverse, Option, Some, Result, Ok, Err, OnOk, OnErr, ap, sym, subst, arith, length-append}
use Rattle.std.specs.List.{list_all}
use Rattle.std.proofs.lemmas.List.{drop_all, drop-append-le, length-reverse, reverse-append}
use Rattle.std.proofs.lemmas.Bool.{and_parts, and_from}
use Rattle.rb_causes.specs.declared.row.Row.{Row}
use Rattle.rb_log.specs.Readings.{Reading}
use Rattle.rb_log.specs.LogState.{log_state, owed}
use Rattle.rb_log.specs.Turn.{turn_of}
use Rattle.rb_log.specs.Legal.{IsLegalLog}
use Rattle.rb_log.specs.Laws.{CallAsked, RoomIsKept, TurnIsLegal}
use Rattle.rb_log.specs.declared.call.Call.{Call}
use Rattle.rb_desk.specs.DeskState.{DeskState, IsDesk, may_wait}
use Rattle.rb_desk.specs.Ledgers.{IsLedger, LedgerState}
use Rattle.rb_tables.specs.Tables.{IsTabled, AreLogTables, most_rows}
use Rattle.rb_tables.specs.declared.tables.Tables.{Tables}

pub newest : (log : List Row) (row : Row) → reverse (log ++ row ∷ []) ≡ row ∷ reverse log
newest log row = reverse-append log (row ∷ [])

-- The log with a row behind it is legal, and it and what it owes have room.
pub record Grows (log : List Row) (room : ℕ) (row : Row) : Type 0 where
  pub legal : IsLegalLog (row ∷ reverse log)
  pub within : length (row ∷ reverse log) + owed (log_state (row ∷ reverse log)) ≤ room

pub grows : TurnIsLegal → RoomIsKept → (log : List Row) (room : ℕ) (c : Call) (reading : Reading)
    (row : Row) → CallAsked (reverse log) c reading
    → length log + owed (log_state (reverse log)) ≤ room
    → (turn_of reading (reverse log) room c).row ≡ Some row → Grows log room row
grows legal kept log room c reading row asked within is = record {
  legal = legal (reverse log) room c reading row asked is;
  within = kept (reverse log) room c reading row asked
      (subst (λ n. n + owed (log_state (reverse log)) ≤ room) (sym (length-reverse log)) within) is;
}

-- ---- a desk over a ledger

abbrev pub desk_of : {K : Type 0} → LedgerState K → ℕ → DeskState K
desk_of l room = record { keeper = l.keeper; log = l.log; saved = l.saved; room = room }

abbrev MayAllWait : List Row → Type 0
MayAllWait rows = list_all may_wait rows ≡ true

pub none_waits : (n : ℕ) (log : List Row) → n ≡ length log → MayAllWait (drop n log)
none_waits n log h = subst MayAllWait (sym (drop_all n log (omega (arith, h)))) refl

all_snoc : (rows : List Row) (row : Row) → MayAllWait rows → may_wait row ≡ true
    → MayAllWait (rows ++ row ∷ [])
all_snoc [] row h k = and_from (may_wait row) true k refl
all_snoc (r ∷ rows) row h k =
    let both = and_parts (may_wait r) (list_all may_wait rows) h in
    and_from (may_wait r) (list_all may_wait (rows ++ row ∷ [])) both.0
    (all_snoc rows row both.1 k)

one_waits : (n : ℕ) (log : List Row) (row : Row) → n ≤ length log → MayAllWait (drop n log)
    → may_wait row ≡ true → MayAllWait (drop n (log ++ row ∷ []))
one_waits n log row low h k =
    subst MayAllWait (sym (drop-append-le n log (row ∷ []) low)) (all_snoc (drop n log) row h k)

-- all of a ledger is kept, or no more than before
abbrev pub Keeps : {K : Type 0} → LedgerState K → LedgerState K → Type 0
Keeps old new = (new.saved ≡ length new.log) ⊎ (new.saved ≡ old.saved)

same_waits : {K : Type 0} (old new : LedgerState K) → new.log ≡ old.log → Keeps old new
    → MayAllWait (drop old.saved old.log) → MayAllWait (drop new.saved new.log)
same_waits old new log (inl h) waiting = none_waits new.saved new.log h
same_waits old new log (inr h) waiting =
    subst (λ l. MayAllWait (drop new.saved l)) (sym log)
    (subst (λ n. MayAllWait (drop n old.log)) (sym h) waiting)

-- a row that may wait, or one with which all is kept
abbrev pub MayStand : {K : Type 0} → LedgerState K → LedgerState K → Row → Type 0
MayStand old new row =
    (new.saved ≡ length new.log) ⊎ ((new.saved ≡ old.saved) × (may_wait row ≡ true))

grown_waits : {K : Type 0} (old new : LedgerState K) (row : Row) → new.log ≡ old.log ++ row ∷ []
    → MayStand old new row → old.saved ≤ length old.log → MayAllWait (drop old.saved old.log)
    → MayAllWait (drop new.saved new.log)
grown_waits old new row log (inl h) low waiting = none_waits new.saved new.log h
grown_waits old new row log (inr h) low waiting =
    subst (λ l. MayAllWait (drop new.saved l)) (sym log)
    (subst (λ n. MayAllWait (drop n (old.log ++ row ∷ []))) (sym h.0)
    (one_waits old.saved old.log row low waiting h.1))

pub keeps_by : {K A E : Type 0} (old new : LedgerState K) (r : Result A E)
    → OnOk r (new.saved ≡ length new.log) → OnErr r (new.saved ≡ old.saved) → Keeps old new
keeps_by old new (Ok a) ok err = inl ok
keeps_by old new (Err e) ok err = inr err

module _ {K : Type 0} (rows : K → Option (List Row)) where
  pub same_desk : (old new : LedgerState K) (room : ℕ) → IsDesk rows (desk_of old room)
      → IsLedger rows new → new.log ≡ old.log → Keeps old new → IsDesk rows (desk_of new room)
  same_desk old new room was ledger log kept = record {
    legal = subst (λ l. IsLegalLog (reverse l)) (sym log) was.legal;
    opened = subst (λ (l : List Row). 0 < length l) (sym log) was.opened;
    within = subst (λ l. length l + owed (log_state (reverse l)) ≤ room) (sym log) was.within;
    bounded = was.bounded;
    saved = ledger.saved;
    kept = ledger.kept;
    waiting = same_waits old new log kept was.waiting;
  }

  pub grown_desk : (old new : LedgerState K) (room : ℕ) (row : Row)
      → IsDesk rows (desk_of old room) → IsLedger rows new → new.log ≡ old.log ++ row ∷ []
      → MayStand old new row → Grows old.log room row → IsDesk rows (desk_of new room)
  grown_desk old new room row was ledger log kept grown =
      let past : row ∷ reverse old.log ≡ reverse new.log =
      sym (newest old.log row) ∙ sym (ap reverse log) in record {
        legal = subst IsLegalLog past grown.legal;
        opened = subst (λ (l : List Row). 0 < length l) (sym log)
            (omega (arith, length-append old.log (row ∷ [])));
        within = subst (λ n. n + owed (log_state (reverse new.log)) ≤ room)
            (length-reverse new.log)
            (subst (λ l. length l + owed (log_state l) ≤ room) past grown.within);
        bounded = was.bounded;
        saved = ledger.saved;
        kept = ledger.kept;
        waiting = grown_waits old new row log kept was.saved was.waiting;
      }

-- the tables of a log are those of the same log, and of one with a row more
pub same_tabled : (t : Tables) (old new : List Row) → new ≡ old → IsTabled t (reverse old)
    → IsTabled t (reverse new)
same_tabled t old new h was = subst (λ l. IsTabled t (reverse l)) (sym h) was

-- rows within a room are few
pub few_rows : (rows owes room : ℕ) → rows + owes ≤ room → room ≤ most_rows → rows < 2 ^ 40
unfolding most_rows
few_rows rows owes room within bounded = omega arith

pub grown_tabled : (t : Tables) (old new : List Row) (room : ℕ) (row : Row)
    → new ≡ old ++ row ∷ [] → AreLogTables t (log_state (row ∷ reverse old)) → Grows old room row
    → room ≤ most_rows → IsTabled t (reverse new)
grown_tabled t old new room row h says grown bounded =
    subst (IsTabled t) (sym (newest old row) ∙ sym (ap reverse h)) (record {
      says = says;
      legal = grown.legal;
      few = few_rows _ _ room grown.within bounded;
    })
