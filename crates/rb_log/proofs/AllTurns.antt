-- What holds of the turn of each call: its row may come, and leaves room for what is owed.
use Rattle.std.proofs.Common.{◌≡◌, ◌∙◌, ◌<◌, ◌+◌, ℕ, ℤ, List, ◌∷◌, length, true, Some, None, unwrap_or, ap, sym, subst, refl, arith}
use Rattle.rb_node.specs.Filters.{IsReadFilter}
use Rattle.rb_causes.specs.Moments.{IsMoment}
use Rattle.rb_causes.specs.declared.row.Row.{Row}
use Rattle.rb_acl.specs.declared.policy.Caller.{Caller}
use Rattle.rb_plan.specs.Verdict.{verdict_of}
use Rattle.rb_plan.specs.declared.world.RunAsk.{RunAsk}
use Rattle.rb_log.specs.Readings.{Reading}
use Rattle.rb_log.specs.Rows.{accept_row, is_clean_caller}
use Rattle.rb_log.specs.Asks.{ask_text}
use Rattle.rb_log.specs.LogState.{LogState, log_state, world_of, moment}
use Rattle.rb_log.specs.Runs.{run, next_number}
use Rattle.rb_log.specs.Looks.{look_at}
use Rattle.rb_log.specs.Turn.{unlimited_turn, turn_of}
use Rattle.rb_log.specs.Legal.{IsLegalLog, run_named}
use Rattle.rb_log.specs.Laws.{CallAsked, TurnIsLegal, RoomIsKept, SlotsAreBounded, PlansAreSound, LeavesAreSound}
use Rattle.rb_log.specs.declared.call.Call.{Call}
use Rattle.rb_log.specs.declared.call.Call.TheVariants as call
use Rattle.rb_log.proofs.AskLaws.{ask_is_kept}
use Rattle.rb_log.proofs.MomentLaws.{run_row_by, look_adds_none, not_some}
use Rattle.rb_log.proofs.ReportLaws.{report_may_come}
use Rattle.rb_log.proofs.RoomTurns.{Fits, zone_fit, nodes_fit, policy_fit, jobs_fit, close_fits, abort_fits, claim_fits, report_fits, run_fits, tick_fits}
use Rattle.rb_log.proofs.RowLaws.{caller_is_kept}
use Rattle.rb_log.proofs.TickRows.{tick_may_come}
use Rattle.rb_log.proofs.TurnLaws.{moment_twice, moment_is, limited_row, comes, zone_may_come, nodes_may_come, close_may_come, claim_may_come, abort_may_come, policy_may_come, jobs_may_come}

-- ---- a run

run_may_come : (past : List Row) (at : ℤ) (caller : Caller) (ask : RunAsk) (row : Row)
    (reading : Reading) → IsLegalLog past → 0 < length past → IsMoment at
    → is_clean_caller caller ≡ true → IsReadFilter ask.filter
    → (run (log_state past) (moment (log_state past) at) caller ask).row ≡ Some row
    → IsLegalLog (row ∷ past)
run_may_come past at caller ask row reading legal some clock clean formed h =
    let s : LogState = log_state past in
    let now : ℤ = moment s at in
    let is = run_row_by s now caller ask
    (verdict_of (world_of s) caller ask (s.draw + next_number s)) row h in
    let r : Row =
    accept_row now (next_number s) s.policy_number is.0 ask.job caller (ask_text ask None) in
    subst (λ r. IsLegalLog (r ∷ past)) (sym is.1)
    (comes past r (call.Run caller ask now) legal some refl (moment_is past at legal clock)
    (ap (run_named r) (ask_is_kept ask)
    ∙ ap (λ c. Some (call.Run c ask now)) (caller_is_kept caller clean)) (record {
      asked = (moment_is past at legal clock, clean);
      formed = formed;
      reading = reading;
      may_read = tt;
      added = ap (λ m. (run s m caller ask).row) (moment_twice s at) ∙ h ∙ ap Some is.1;
    }))

-- ---- each call

turn_row : (past : List Row) (room : ℕ) (c : Call) (reading : Reading) (row : Row)
    → (turn_of reading past room c).row ≡ Some row
    → (unlimited_turn reading (log_state past) c).row ≡ Some row
turn_row past room c reading row h =
    limited_row (log_state past) room (unlimited_turn reading (log_state past) c) row h

module _ (slots : SlotsAreBounded) (plans : PlansAreSound) where
  legal_by : (past : List Row) (c : Call) (reading : Reading) (row : Row) → CallAsked past c reading
      → (unlimited_turn reading (log_state past) c).row ≡ Some row → IsLegalLog (row ∷ past)
  legal_by past (call.ImportZone name rule at) reading row a h =
      zone_may_come past at a.legal a.opened a.may reading name rule row h
  legal_by past (call.ImportNodes project body at) reading row a h =
      nodes_may_come past at a.legal a.opened a.may reading project body row h
  legal_by past (call.ImportPolicy caller checked name body at) reading row a h =
      policy_may_come past at a.legal a.opened a.may.0 reading caller checked name body row a.may.1
      a.read h
  legal_by past (call.ImportJobs caller checked project body at) reading row a h =
      jobs_may_come past at a.legal a.opened a.may.0 reading caller checked project body row a.may.1
      a.read h
  legal_by past (call.Run caller ask at) reading row a h =
      run_may_come past at caller ask row reading a.legal a.opened a.may.0 a.may.1 a.formed h
  legal_by past (call.Abort caller number at) reading row a h =
      abort_may_come past at a.legal a.opened a.may.0 reading caller number row a.may.1 h
  legal_by past (call.Tick at) reading row a h =
      tick_may_come past at a.legal a.opened a.may reading row h
  legal_by past (call.Claim worker at) reading row a h =
      claim_may_come past at a.legal a.opened a.may.0 reading worker row a.may.1 h
  legal_by past (call.Report done at) reading row a h =
      report_may_come slots plans past at done a.legal a.opened a.may.0 a.may.1 a.formed reading row
      h
  legal_by past (call.CloseDoor door at) reading row a h =
      subst (λ r. IsLegalLog (r ∷ past)) (ap (λ o. unwrap_or o row) h)
      (close_may_come past at a.legal a.opened a.may.0 reading door a.may.1)
  legal_by past (call.Look caller l) reading row a h =
      absurd (not_some (look_at (log_state past) caller l).row row
      (look_adds_none (log_state past) caller l) h)
  legal_by past call.Save reading row a h = absurd (grind (arith, h))

module _ (slots : SlotsAreBounded) (plans : PlansAreSound) (leaves : LeavesAreSound) where
  fits_by : (past : List Row) (room : ℕ) (c : Call) (reading : Reading) (row : Row)
      → CallAsked past c reading → Fits room past → (turn_of reading past room c).row ≡ Some row
      → Fits room (row ∷ past)
  fits_by past room (call.ImportZone name rule at) reading row a low h =
      zone_fit past room (moment (log_state past) at) name rule row h
  fits_by past room (call.ImportNodes project body at) reading row a low h =
      nodes_fit past room (moment (log_state past) at) project body row h
  fits_by past room (call.ImportPolicy caller checked name body at) reading row a low h =
      policy_fit past room (moment (log_state past) at) reading caller checked name body row h
  fits_by past room (call.ImportJobs caller checked project body at) reading row a low h =
      jobs_fit past room (moment (log_state past) at) reading caller checked project body row h
  fits_by past room (call.Run caller ask at) reading row a low h =
      run_fits past room (moment (log_state past) at) caller ask row a.may.1 (ask_is_kept ask) h
  fits_by past room (call.Abort caller number at) reading row a low h =
      abort_fits past room (moment (log_state past) at) slots plans leaves a.legal low caller number
      row h
  fits_by past room (call.Tick at) reading row a low h =
      tick_fits past room (moment (log_state past) at) a.legal (moment_is past at a.legal a.may).1
      row h
  fits_by past room (call.Claim worker at) reading row a low h =
      claim_fits past room (moment (log_state past) at) slots plans leaves a.legal low worker row h
  fits_by past room (call.Report done at) reading row a low h =
      report_fits past room (moment (log_state past) at) slots plans leaves a.legal low done row
      a.may.1 h
  fits_by past room (call.CloseDoor door at) reading row a low h =
      subst (λ r. Fits room (r ∷ past)) (ap (λ o. unwrap_or o row) h)
      (close_fits past room (moment (log_state past) at) door a.may.1 low)
  fits_by past room (call.Look caller l) reading row a low h =
      absurd (not_some (look_at (log_state past) caller l).row row
      (look_adds_none (log_state past) caller l)
      (turn_row past room (call.Look caller l) reading row h))
  fits_by past room call.Save reading row a low h = absurd (grind (arith, h))

pub room_is_kept : SlotsAreBounded → PlansAreSound → LeavesAreSound → RoomIsKept
room_is_kept slots plans leaves past room c reading row a low h =
    fits_by slots plans leaves past room c reading row a low h

pub turn_is_legal : SlotsAreBounded → PlansAreSound → TurnIsLegal
turn_is_legal slots plans past room c reading row a h =
    legal_by slots plans past c reading row a (turn_row past room c reading row h)
