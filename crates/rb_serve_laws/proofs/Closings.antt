-- A door that is closed was open, and the closing adds a row.
use Rattle.std.proofs.Common.{◌≡◌, ◌∙◌, ◌+◌, ℕ, ℤ, Bool, true, false, List, [], ◌∷◌, ◌++◌, length, reverse, take, Contains, Some, option_to_list, ap, sym, subst, arith, length-append}
use Rattle.std.proofs.lemmas.Bool.{true≢false}
use Rattle.std.proofs.lemmas.List.{length-take-le, reverse-append, take-append-le, take_all}
use Rattle.rb_causes.specs.declared.row.Row.{Row}
use Rattle.rb_log.specs.Acted.{ActsAs}
use Rattle.rb_log.specs.Legal.{ComesBy, IsLegalLog}
use Rattle.rb_log.specs.LogState.{LogState, log_state, moment}
use Rattle.rb_log.specs.Records.{Follows, IsTrueAnswer, IsTrueRecord, Record, StaysAtFault, before_record, is_promised, is_save, turn_at}
use Rattle.rb_log.specs.Rows.{close_row}
use Rattle.rb_log.specs.Told.{IsBeginning, Told, record_of}
use Rattle.rb_log.specs.Turn.{turn_of}
use Rattle.rb_log.specs.declared.answer.Answer.{Answer}
use Rattle.rb_log.specs.declared.answer.Answer.TheVariants as answer
use Rattle.rb_log.specs.declared.call.Call.TheVariants.{CloseDoor}

module _ (log : List Row) (room : ℕ) (r : Record) (door : ℕ) (at : ℤ)
    (is : r.call ≡ CloseDoor door at) where
  -- its row was promised, so no fault takes its place
  follows_by : (a : Answer) → IsTrueAnswer a log room r → Follows log room r
  follows_by answer.NoMemory h = absurd (true≢false (sym (ap is_promised is) ∙ h.may))
  follows_by answer.StoreFault h =
      let stays = subst (λ b. StaysAtFault b log room r) (ap is_save is) h in
      absurd (true≢false (sym (ap is_promised is) ∙ stays.may.unpromised))
  follows_by other h = h

  module _ (true_record : IsTrueRecord log room r) where
    follows : Follows log room r
    follows = follows_by r.answer true_record.answer

    abbrev row : Row
    row = close_row (moment (log_state (before_record log r)) at) door

    row_is : (turn_at follows.reading log room r).row ≡ Some row
    row_is = ap (λ c. (turn_of follows.reading (before_record log r) room c).row) is

    pub rows_are : take r.after log ≡ take r.before log ++ row ∷ []
    rows_are = follows.rows ∙ ap (λ o. take r.before log ++ option_to_list o) row_is

    pub one_more : r.after ≡ r.before + 1
    one_more =
        let in_log = true_record.within in
        let same : length (take r.after log) ≡ length (take r.before log) + 1 =
        ap length rows_are ∙ length-append (take r.before log) (row ∷ []) in
        omega (
          arith,
          same,
          length-take-le r.after log in_log.1,
          length-take-le r.before log (omega (arith, in_log.0, in_log.1)),
        )

-- ---- where it may come

comes : (s : LogState) (b : Bool) (at : ℤ) (door : ℕ) → ComesBy b s (close_row at door)
    → Contains s.doors door
comes s true at door h =
    absurd (let kinds = ap (λ (x : Row). x.kind) h.row_is in omega (arith, kinds))
comes s false at door h = h.asked.1

legal_close : (past : List Row) (at : ℤ) (door : ℕ) → IsLegalLog (close_row at door ∷ past)
    → Contains (log_state past).doors door
legal_close past at door h = comes (log_state past) _ at door h.1.1

-- the clerk's closing of a door, over a log that goes on from the clerk's
module _ (log : List Row) (old new : Told) (r : Record) (door : ℕ) (at : ℤ)
    (h : ActsAs old new r) (is : r.call ≡ CloseDoor door at) (more : IsBeginning new.log log) where
  same_record : record_of r.call r.answer h.acts.before new.log ≡ r
  same_record =
      ap (λ n. record_of r.call r.answer n new.log) h.before
      ∙ ap (λ n. record { call = r.call; answer = r.answer; before = r.before; after = n }) h.after

  is_true : IsTrueRecord new.log old.room r
  is_true = subst (IsTrueRecord new.log old.room) same_record h.acts.true_record

  there : Contains (log_state (before_record new.log r)).doors door
  there =
      let whole : new.log ≡ take r.before new.log ++ row new.log old.room r door at is is_true ∷ [] =
      sym (take_all r.after new.log (omega (arith, h.after)))
      ∙ rows_are new.log old.room r door at is is_true in
      legal_close (before_record new.log r) _ door
      (subst IsLegalLog (ap reverse whole ∙ reverse-append (take r.before new.log)
      (row new.log old.room r door at is is_true ∷ [])) h.acts.legal)

  same_before : before_record new.log r ≡ before_record log r
  same_before =
      ap reverse (sym (ap (take r.before) more.1 ∙ take-append-le r.before new.log more.0
      (omega (arith, is_true.within.0, is_true.within.1))))

  pub was_open : Contains (log_state (before_record log r)).doors door
  was_open = subst (λ past. Contains (log_state past).doors door) same_before there
