-- The demo goes on behind a pump: what it asks adds Begins, Ends and withdrawals alone.
use Rattle.std.proofs.Common.{◌≡◌, ◌≤◌, ◌+◌, ◌∙◌, ℕ, ℤ, List, [], ◌∷◌, ◌++◌, length, reverse, flat_map, Bool, true, false, nat_eq, Option, Some, None, All, option_to_list, ap, sym, subst, refl, arith, inl, inr, ◌⊎◌, length-append, if◌then◌else◌}
use Rattle.std.proofs.lemmas.Bool.Decides.{nat_tests}
use Rattle.std.proofs.lemmas.List.Elements.{All-head, All-tail}
use Rattle.rb_desk.proofs.Promised.{end_is}
use Rattle.rb_causes.specs.declared.row.Row.{Row}
use Rattle.rb_log.specs.Acted.{Acted}
use Rattle.rb_log.specs.Claims.{claim, report}
use Rattle.rb_log.specs.Laws.{RoomIsKept}
use Rattle.rb_log.specs.Legal.{IsLegalLog}
use Rattle.rb_log.specs.LogState.{LogState, execution_at, log_state, moment}
use Rattle.rb_log.specs.Moves.{Moved, limited, only}
use Rattle.rb_log.specs.Records.{Record}
use Rattle.rb_log.specs.Rows.{begin_row, end_row, withdraw_row}
use Rattle.rb_log.specs.Tasks.{DoneValue}
use Rattle.rb_log.specs.Ticks.{tick}
use Rattle.rb_log.specs.Told.{Told, Acts, added, record_of}
use Rattle.rb_log.specs.declared.answer.Answer.{Answer}
use Rattle.rb_log.specs.declared.answer.Answer.TheVariants as answer
use Rattle.rb_log.specs.declared.call.Call.{Call}
use Rattle.rb_log.specs.declared.call.Call.TheVariants.{Claim, Report, Tick}
use Rattle.rb_work.specs.Works.{Work, Outside, IsWork, IsWithdrawal, records_of}
use Rattle.rb_work.specs.Pumping.{IsLastClaim}
use Rattle.rb_work.specs.Ticks.{AreTicks}
use Rattle.rb_work.proofs.Records.{acted_faults, acted_room, acted_then}
use Rattle.rb_demo.specs.Going.{IsGoing}
use Rattle.rb_demo.specs.Hearing.{IsAlone, IsByRules, IsRuled}
use Rattle.rb_demo.specs.Rounds.{PumpsIf}
use Rattle.rb_demo.proofs.Load.{IsClaimRow, begin_going, claim_is, end_going, moved_behind, withdraw_going}
use Rattle.rb_demo.proofs.NeverDue.{never_due}
use Rattle.rb_demo.proofs.Ruled.{is_ruled}

-- ---- one call

-- a worker asks for nothing else
abbrev pub IsWorkCall : Call → Type 0
IsWorkCall (Tick at) = Unit {0}
IsWorkCall (Claim worker at) = Unit {0}
IsWorkCall (Report done at) = Unit {0}
IsWorkCall other = ⊥

module _ (law : RoomIsKept) (nodes accepted : ℕ) (old new : Told)
    (legal : IsLegalLog (reverse new.log)) (h : IsGoing nodes accepted (reverse old.log)) where
  abbrev past : List Row
  past = reverse old.log

  abbrev s : LogState
  s = log_state past

  abbrev Goes : Type 0
  Goes = IsGoing nodes accepted (reverse new.log)

  same : reverse new.log ≡ past → Goes
  same is = subst (IsGoing nodes accepted) (sym is) h

  begun : (now : ℤ) (e l worker : ℕ) → reverse new.log ≡ begin_row now e l worker ∷ past → Goes
  begun now e l worker is =
      subst (IsGoing nodes accepted) (sym is)
      (begin_going law nodes accepted past now e l worker (subst IsLegalLog is legal) h)

  withdrawn : (now : ℤ) (e node number : ℕ)
      → reverse new.log ≡ withdraw_row now e node number ∷ past → Goes
  withdrawn now e node number is =
      subst (IsGoing nodes accepted) (sym is)
      (withdraw_going law nodes accepted past now e node number (subst IsLegalLog is legal) h)

  claimed_goes : (now : ℤ) (worker : ℕ) (row : Row) → IsClaimRow now worker row
      → reverse new.log ≡ row ∷ past → Goes
  claimed_goes now worker row (inl (e, l, form)) is =
      begun now e l worker (is ∙ ap (λ r. r ∷ past) form)
  claimed_goes now worker row (inr (e, node, number, form)) is =
      withdrawn now e node number (is ∙ ap (λ r. r ∷ past) form)

  claim_goes : (now : ℤ) (worker : ℕ) (m : Moved) → m.need ≡ None
      → (m.row ≡ None) ⊎ ((row : Row) × (m.row ≡ Some row) × IsClaimRow now worker row)
      → new.log ≡ old.log ++ option_to_list (limited s old.room m).row → Goes
  claim_goes now worker m none (inl is) rows =
      same (moved_behind s old.room m None old.log new.log is none rows)
  claim_goes now worker m none (inr (row, is, form)) rows =
      claimed_goes now worker row form
      (moved_behind s old.room m (Some row) old.log new.log is none rows)

  tick_goes : (now : ℤ) → new.log ≡ old.log ++ option_to_list (limited s old.room (tick s now)).row
      → Goes
  tick_goes now rows =
      let quiet : tick s now ≡ only answer.Quiet = never_due nodes h.running s h.world now in
      same (moved_behind s old.room (tick s now) None old.log new.log
      (ap (λ (m : Moved). m.row) quiet) (ap (λ (m : Moved). m.need) quiet) rows)

  ended_goes : (now : ℤ) (done : DoneValue) (l : ℕ) (row : Row)
      → row ≡ end_row now done.claimed.execution l done.ending → reverse new.log ≡ row ∷ past → Goes
  ended_goes now done l row form is =
      let whole = is ∙ ap (λ r. r ∷ past) form in
      subst (IsGoing nodes accepted) (sym whole)
      (end_going law nodes accepted past now done.claimed.execution l done.ending
      (subst IsLegalLog whole legal) h)

  report_goes : (now : ℤ) (done : DoneValue) (o : Option Row) → (report s now done).row ≡ o
      → new.log ≡ old.log ++ option_to_list (limited s old.room (report s now done)).row → Goes
  report_goes now done None is rows =
      same (moved_behind s old.room (report s now done) None old.log new.log is refl rows)
  report_goes now done (Some row) is rows =
      let e = end_is now done (execution_at s done.claimed.execution) row is in
      ended_goes now done e.0 row e.1
      (moved_behind s old.room (report s now done) (Some row) old.log new.log is refl rows)

  call_goes : (call : Call) (a : Answer) → IsWorkCall call → IsByRules old new call a → Goes
  call_goes (Tick at) a is r = tick_goes (moment s at) r.rows
  call_goes (Claim worker at) a is r =
      let c = claim_is s (moment s at) worker in
      claim_goes (moment s at) worker (claim s (moment s at) worker) c.need c.row r.rows
  call_goes (Report done at) a is r =
      report_goes (moment s at) done (report s (moment s at) done).row refl r.rows
  call_goes other a is r = absurd is

  pub ruled_goes : (call : Call) (a : Answer) → IsWorkCall call → IsRuled old new call a → Goes
  ruled_goes call a is (inl none) = same (ap reverse none.1)
  ruled_goes call a is (inr r) = call_goes call a is r

-- ---- rows that are all a clerk's own

own_if : (b : Bool) (before after low : ℕ) → nat_eq before after ≡ b → before ≤ after → low ≤ before
    → length (if b then [] else after ∷ []) + low ≤ after
own_if true before after low e within later = omega (arith, within, later)
own_if false before after low e within later =
    let apart : before ≡ after → ⊥ = λ same. grind (arith, nat_tests) in
    omega (arith, within, later)

-- a call adds no more rows of its own than rows
own_more : (old new : Told) (call : Call) (a : Answer) → Acts old new call a
    → length new.own + length old.log ≤ length old.own + length new.log
own_more old new call a acts =
    let size = ap length acts.own
    ∙ length-append old.own (added (record_of call a acts.before new.log)) in
    let one = own_if (nat_eq acts.before (length new.log)) acts.before (length new.log)
    (length old.log) refl acts.true_record.within.0 acts.later in
    omega (arith, size, one)

own_before : (rs : List Record) (old new : Told) → Acted old new rs
    → length old.own ≤ length old.log → length new.own ≡ length new.log
    → length old.own ≡ length old.log
own_before [] old new h low all = subst (λ (t : Told). length t.own ≡ length t.log) h all
own_before (r ∷ rs) old new h low all =
    let step = own_more old h.0 r.call r.answer h.1.acts in
    let there = own_before rs h.0 new h.2 (omega (arith, step, low)) all in
    omega (arith, step, there, low)

-- A clerk that has its desk for itself: no fault, and all rows are its own.
pub record HasAll (t : Told) : Type 0 where
  pub faults : t.faults ≡ 0
  pub own : length t.own ≡ length t.log

pub has_all : {C : Type 0} (told : C → Told) → IsAlone told → (c : C) → HasAll (told c)
has_all told h c = record { faults = h.faults c; own = h.own c }

-- ---- one call after another

abbrev pub AreWorkCalls : List Record → Type 0
AreWorkCalls [] = Unit {0}
AreWorkCalls (r ∷ rs) = IsWorkCall r.call × AreWorkCalls rs

acted_goes : RoomIsKept → (nodes accepted : ℕ) (rs : List Record) (old new : Told) → AreWorkCalls rs
    → Acted old new rs → HasAll old → HasAll new → IsGoing nodes accepted (reverse old.log)
    → IsGoing nodes accepted (reverse new.log)
acted_goes law nodes accepted [] old new calls h o n g =
    subst (λ (t : Told). IsGoing nodes accepted (reverse t.log)) (sym h) g
acted_goes law nodes accepted (r ∷ rs) old new calls h o n g =
    let mid : Told = h.0 in
    let step = own_more old mid r.call r.answer h.1.acts in
    let own : length mid.own ≡ length mid.log =
    own_before rs mid new h.2 (omega (arith, step, o.own)) n.own in
    let later = acted_faults rs mid new h.2 in
    let calm : mid.faults ≡ 0 = omega (arith, later, n.faults) in
    let ruled = is_ruled old mid r.call r.answer o.faults calm o.own own h.1.acts in
    acted_goes law nodes accepted rs mid new calls.1 h.2 (record { faults = calm; own = own }) n
    (ruled_goes law nodes accepted old mid h.1.acts.legal g r.call r.answer calls.0 ruled)

both_ask : (xs ys : List Record) → AreWorkCalls xs → AreWorkCalls ys → AreWorkCalls (xs ++ ys)
both_ask [] ys h k = k
both_ask (x ∷ xs) ys h k = (h.0, both_ask xs ys h.1 k)

ticks_ask : (at : ℤ) (rs : List Record) → AreTicks at rs → AreWorkCalls rs
ticks_ask at [] h = absurd h
ticks_ask at (r ∷ []) h = (subst IsWorkCall (sym h.asked) tt, tt)
ticks_ask at (r ∷ q ∷ rs) h = (subst IsWorkCall (sym h.0.asked) tt, ticks_ask at (q ∷ rs) h.1)

withdrawals_ask : (at : ℤ) (worker : ℕ) (rs : List Record) → All (IsWithdrawal at worker) rs
    → AreWorkCalls rs
withdrawals_ask at worker [] h = tt
withdrawals_ask at worker (r ∷ rs) h =
    let is = All-head (IsWithdrawal at worker) r rs h in (
      subst IsWorkCall (sym is.asked) tt,
      withdrawals_ask at worker rs (All-tail (IsWithdrawal at worker) r rs h),
    )

works_ask : (at : ℤ) (worker : ℕ) (log : List Row) (ws : List Work)
    → All (IsWork at worker log) ws → AreWorkCalls (flat_map records_of ws)
works_ask at worker log [] each = tt
works_ask at worker log (w ∷ ws) each =
    let is = All-head (IsWork at worker log) w ws each in
    let task : AreWorkCalls (w.claim ∷ w.report ∷ []) =
    (subst IsWorkCall (sym is.asked) tt, (subst IsWorkCall (sym is.told) tt, tt)) in
    both_ask (records_of w) (flat_map records_of ws)
    (both_ask w.withdrawals (w.claim ∷ w.report ∷ [])
    (withdrawals_ask at worker w.withdrawals is.withdrew) task)
    (works_ask at worker log ws (All-tail (IsWork at worker log) w ws each))

last_asks : (at : ℤ) (worker : ℕ) (a : Answer) (last : List Record)
    → IsLastClaim at worker a last → AreWorkCalls last
last_asks at worker a last h =
    subst AreWorkCalls (sym h.behind)
    (both_ask h.withdrawals (h.claim ∷ []) (withdrawals_ask at worker h.withdrawals h.withdrew)
    (subst IsWorkCall (sym h.asked) tt, tt))

-- ---- a pump

pub pump_goes : RoomIsKept → (nodes accepted : ℕ) (pumps : Bool) (old new : Outside)
    → PumpsIf pumps old new → HasAll old.clerk → HasAll new.clerk
    → IsGoing nodes accepted (reverse old.clerk.log)
    → IsGoing nodes accepted (reverse new.clerk.log)
pump_goes law nodes accepted false old new h o n g =
    subst (λ (x : Outside). IsGoing nodes accepted (reverse x.clerk.log)) (sym h) g
pump_goes law nodes accepted true old new h o n g =
    let worked : List Record = flat_map records_of h.works ++ h.last in
    acted_goes law nodes accepted (h.ticks ++ worked) old.clerk new.clerk
    (both_ask h.ticks worked (ticks_ask h.at h.ticks h.ticked.are)
    (both_ask (flat_map records_of h.works) h.last
    (works_ask h.at 0 new.clerk.log h.works h.worked.each)
    (last_asks h.at 0 answer.Idle h.last h.ends)))
    (acted_then h.ticks worked old.clerk h.mid new.clerk h.ticked.acted h.worked.acted) o n g

pub pump_room : (pumps : Bool) (old new : Outside) → PumpsIf pumps old new
    → new.clerk.room ≡ old.clerk.room
pump_room false old new h = ap (λ (x : Outside). x.clerk.room) h
pump_room true old new h =
    acted_room (flat_map records_of h.works ++ h.last) h.mid new.clerk h.worked.acted
    ∙ acted_room h.ticks old.clerk h.mid h.ticked.acted
